use Rattle.std.proofs.Common.{◌≡◌, ◌+◌, ◌-◌, length, take, sym, refl, ap, ◌∙◌, arith, rules}
use Rattle.std.proofs.lemmas.List.{take_all}
use Rattle.std.proofs.lemmas.List.Edits.{length-paste}
use Rattle.std.proofs.lemmas.Slice.{put_mid-paste}
use Rattle.reading.specs.Stores.{rows_in}
use Rattle.memory.proofs.lent.load_rows_at.Goals as goal

pub returns : goal.returns
returns c =
    let part = c.store_rows.new.rows in
    let cells = c.args.memory.now.cells.now in
    let at = c.args.at in
    let n = c.args.n in
    let rows = rows_in c.args.text.now in
    let count = c.requires.count in
    let target = c.requires.target in
    let long : length part ≡ n = search rules in
    let all : c.store_rows.result ≡ n = c.store_rows.ensures.count ∙ sym count in
    let same : part ≡ rows = sym (take_all n part (omega arith)) ∙ ap (λ j. take j part) (sym all) ∙ c.store_rows.ensures.rows in
    let value = put_mid-paste at ((at + n) - at) cells part rows n same (omega arith) count in
    record { value = value; place = record { same = refl; len = ap length value ∙ length-paste cells at rows n target (omega arith) } }
