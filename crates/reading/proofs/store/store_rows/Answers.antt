use Rattle.std.proofs.Common.{◌≡◌, length, take, drop, sym, ap, ◌∙◌, arith}
use Rattle.lines.specs.Texts.{text_of, on_line}
use Rattle.reading.proofs.StoreLaws.{rows_room_lem}
use Rattle.reading.proofs.store.store_rows.Goals as goal
use Rattle.reading.proofs.store.store_rows.Goals.{In-Some}

-- the text from the line on
told : (c : In-Some) → text_of (drop c.loop-line.lines.at c.args.text.now) ≡ on_line c.in-Some.line.now (text_of (drop c.next_line.new.self.at c.args.text.now))
told c =
    ap (λ f. text_of (drop c.loop-line.lines.at f)) (sym c.loop-line.invariant.1)
    ∙ c.in-Some.ensures.text
    ∙ ap (λ f. on_line c.in-Some.line.now (text_of (drop c.next_line.new.self.at f))) c.loop-line.invariant.1

pub store_part-n-requires-clause-room : goal.store_part-n-requires-clause-room
store_part-n-requires-clause-room c =
    let s = (goal.at.store_part-n-requires-clause-room c).In-Some in
    let r = rows_room_lem _ _ c.in-Some.line.now c.loop-line.lines.line (take c.loop-line.n c.loop-line.rows) (told s) c.next_line.new.self.line c.number.result _ c.in-Some.ensures.line c.number.ensures c.in-Some-of.ensures in
    let all = ap length c.loop-line.invariant.0 in
    omega (arith, c.requires, c.loop-line.auto.rows)
