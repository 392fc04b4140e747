use Rattle.std.proofs.Common.{◌≡◌, ℕ, ◌-◌, Bool, true, false, cond, List, length, take, drop, Some, None, Ok, Err, Option, Result, sym, refl, ap, ◌∙◌}
use Rattle.std.proofs.lemmas.List.{take_rest}
use Rattle.refusal.specs.declared.Refusal.{Refusal}
use Rattle.records.specs.declared.record.Record.{Record}
use Rattle.records.specs.declared.record.Record.TheVariants as rec
use Rattle.records.specs.declared.field.Value.{Value}
use Rattle.records.specs.Types.{is_comment, record_of}
use Rattle.records.specs.Reads.{read_record}
use Rattle.reading.specs.declared.scan.Scan.{Scan}
use Rattle.reading.specs.declared.stage.Stage.{Stage}
use Rattle.reading.specs.declared.content.Content.{Content}
use Rattle.reading.specs.Order.{next_stage}
use Rattle.reading.specs.Contents.{content_of, content_if, content_in, content_refusal, with_content}
use Rattle.reading.specs.Scans.{on_ok, taken, taken_if, at_stage, by_stage, by_record, line_step}

-- what a record says, taken
abbrev pub added : ℕ → Scan → Option Content → Result Scan Refusal
added line s None = Ok s
added line s (Some c) = on_ok (content_refusal line s c) (with_content s c)

abbrev pub added_if : ℕ → Scan → Result (Option Content) Refusal → Result Scan Refusal
added_if line s (Ok o) = added line s o
added_if line s (Err e) = Err e

taken_lem : (line : ℕ) (s : Scan) (t : Record) (vs : List Value) → taken line s t vs ≡ added line s (content_of t vs)
taken_lem line s rec.H1 vs = refl
taken_lem line s rec.H2 vs = refl
taken_lem line s rec.H3 vs = refl
taken_lem line s rec.H5 vs = refl
taken_lem line s rec.H9 vs = refl
taken_lem line s rec.Position vs = refl
taken_lem line s rec.Velocity vs = refl
taken_lem line s rec.Comment vs = refl
taken_lem line s rec.Trailer vs = refl

read_lem : (line : ℕ) (s : Scan) (t : Record) (b : Bool) (r : Result (List Value) Refusal) → cond b (Ok s) (taken_if line s t r) ≡ added_if line s (cond b (Ok None) (content_if t r))
read_lem line s t true r = refl
read_lem line s t false (Ok vs) = taken_lem line s t vs
read_lem line s t false (Err e) = refl

-- a line of a known type in its place, by what it says, as the checker reads `&line[2..]`
pub step_by : (n : ℕ) (text : List ℕ) (s : Scan) (t : Record) (st : Stage) (r : Result (Option Content) Refusal) → Some t ≡ record_of text → Some st ≡ next_stage s.part s.stage t
    → r ≡ content_in n t (take (length text - 2) (drop 2 text)) → line_step n text s ≡ at_stage st (added_if n s r)
step_by n text s t st r k p c =
    ap (by_record n text s) (sym k) ∙ ap (by_stage n text s t) (sym p)
    ∙ ap (at_stage st) (read_lem n s t (is_comment t) (read_record n t (drop 2 text)) ∙ ap (added_if n s) (sym (c ∙ ap (content_in n t) (take_rest text 2))))
