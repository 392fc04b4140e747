use Rattle.std.specs.Prelude.{ℕ, ◌+◌, ◌≤◌, Bool, true, false, cond, ◌&&◌, ◌||◌, List, [], ◌∷◌, ◌++◌, length, Ok, Err, Result, ◌==◌}
use Rattle.std.specs.List.{AllByRecursion}
use Rattle.refusal.specs.declared.Refusal.{Refusal}
use Rattle.refusal.specs.declared.Refusal.TheVariants.{WordCount, WrongForm, OutOfRange}
use Rattle.lines.specs.Words.{words}
use Rattle.records.specs.declared.field.Field.{Field}
use Rattle.records.specs.declared.field.Value.{Value}
use Rattle.records.specs.declared.field.Fault.{Fault}
use Rattle.records.specs.declared.field.Fault.TheVariants as fault
use Rattle.records.specs.declared.record.Record.{Record}
use Rattle.records.specs.declared.record.Record.TheVariants as rec
use Rattle.records.specs.Fields.{field_value}
use Rattle.records.specs.Tables.{fields_of}

-- the refusal of a word
abbrev pub fault_at : ℕ → ℕ → Fault → Refusal
fault_at line word fault.Form = WrongForm line word
fault_at line word fault.Range = OutOfRange line word

abbrev pub refused_at : ℕ → ℕ → Result Value Fault → Result Value Refusal
refused_at line word (Ok v) = Ok v
refused_at line word (Err e) = Err (fault_at line word e)

abbrev pub onward : Result Value Fault → ℕ → ℕ → (Value → Result (List Value) Refusal) → Result (List Value) Refusal
onward (Ok v) line word go = go v
onward (Err e) line word go = Err (fault_at line word e)

-- the words by their fields from the left, after the values acc of the words before them; the record type is word 1
abbrev pub read_on : ℕ → List Field → List (List ℕ) → List Value → Result (List Value) Refusal
read_on line [] ws acc = Ok acc
read_on line (f ∷ fs) [] acc = Ok acc
read_on line (f ∷ fs) (w ∷ ws) acc = onward (field_value f w acc) line (length acc + 2) (λ v. read_on line fs ws (acc ++ (v ∷ [])))

abbrev pub is_h1 : Record → Bool
is_h1 rec.H1 = true
is_h1 rec.H2 = false
is_h1 rec.H3 = false
is_h1 rec.H5 = false
is_h1 rec.H9 = false
is_h1 rec.Position = false
is_h1 rec.Velocity = false
is_h1 rec.Comment = false
is_h1 rec.Trailer = false

-- a record has a word for each field; the last one of H1, the notes, may be absent
abbrev pub count_fits : Record → ℕ → Bool
count_fits t n = n == length (fields_of t) || (is_h1 t && n + 1 == length (fields_of t))

-- the values of a record's words after its type, or the refusal of its line
abbrev pub read_record : ℕ → Record → List ℕ → Result (List Value) Refusal
read_record line t rest = cond (count_fits t (length (words rest))) (read_on line (fields_of t) (words rest) []) (Err (WordCount line))

-- a number's places leave room for twelve digits before the point
abbrev pub Fine : List Field → Type 0
Fine fs = AllByRecursion (λ f. f.places ≤ 6) fs
