use Rattle.std.proofs.Common.{◌≡◌, ℕ, List, [], ◌∷◌, length, Ok, sym, refl, ◌∙◌, ⊎_elim, arith}
use Rattle.lines.specs.Words.{words}
use Rattle.records.specs.declared.field.Field.{Field}
use Rattle.records.specs.declared.field.Value.{Value}
use Rattle.records.specs.Reads.{read_on}
use Rattle.records.specs.Values.{values_of}
use Rattle.records.proofs.read.read_fields.Goals as goal

no_field : (line : ℕ) (fs : List Field) (ws : List (List ℕ)) (acc : List Value) → length fs ≡ 0 → read_on line fs ws acc ≡ Ok acc
no_field line [] ws acc e = refl
no_field line (f ∷ fs) ws acc e = absurd (omega arith)

no_word : (line : ℕ) (fs : List Field) (ws : List (List ℕ)) (acc : List Value) → ws ≡ [] → read_on line fs ws acc ≡ Ok acc
no_word line [] ws acc e = refl
no_word line (f ∷ fs) ws acc e = rw e

pub returns : goal.returns
returns c =
    let fs = c.loop-field.field-iterator.a.rest.now in
    let ws = words c.loop-field.field-iterator.b.rest.now in
    let acc = values_of c.loop-field.values in
    sym c.loop-field.invariant.reads
    ∙ ⊎_elim (λ p. no_field c.args.line fs ws acc p.1.0) (λ p. no_word c.args.line fs ws acc p.1.0) c.in-None.ensures.steps
