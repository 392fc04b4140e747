-- Header and rows are built again from their values.
use Rattle.std.proofs.Common.{◌≡◌, ℕ, List, [], ◌∷◌, length, get_or, ℤ, pos, Some, None, Option, sym, refl, ap, arith}
use Rattle.calendar.proofs.Moments.{instant_of_self}
use Rattle.cells.specs.declared.summary.Cells.{Cells}
use Rattle.model.specs.declared.LeapFlag.{LeapFlag}
use Rattle.model.specs.declared.LeapFlag.TheVariants.{Removed, NoLeap, Added}
use Rattle.model.specs.declared.Row.{Row}
use Rattle.model.specs.declared.Vector.{Vector}
use Rattle.model.specs.declared.name.Name.{Name}
use Rattle.model.specs.declared.header.Origin.{Origin}
use Rattle.model.specs.declared.header.Satellite.{Satellite}
use Rattle.model.specs.declared.header.Accuracy.{Accuracy}
use Rattle.model.specs.declared.header.Offset.{Offset}
use Rattle.records.specs.Builds.{origin_of, satellite_of, accuracy_of, offset_of, velocity_of}
use Rattle.model.specs.Flags.{flag_number, flag_of}
use Rattle.reading.specs.Builds.{row_of}
use Rattle.writing.specs.Values.{origin_values, satellite_values, accuracy_values, offset_values, position_values, velocity_values}

abbrev with_notes : Origin → Option Name → Origin
with_notes o n = record { source = o.source; year = o.year; month = o.month; day = o.day; hour = o.hour; sequence = o.sequence; sub_daily = o.sub_daily; target = o.target; notes = n }

notes_back : (o : Origin) (n : Option Name) → origin_of (origin_values (with_notes o n)) ≡ with_notes o n
notes_back o None = refl
notes_back o (Some n) = refl

pub origin_back : (o : Origin) → origin_of (origin_values o) ≡ o
origin_back o = notes_back o o.notes

pub satellite_back : (s : Satellite) (c : Cells) → satellite_of (satellite_values s c) ≡ s
satellite_back s c = refl

nine_back : (xs : List ℤ) → length xs ≡ 9 → (let at : ℕ → ℤ = λ i. get_or xs i (pos 0) in at 0 ∷ at 1 ∷ at 2 ∷ at 3 ∷ at 4 ∷ at 5 ∷ at 6 ∷ at 7 ∷ at 8 ∷ []) ≡ xs
nine_back [] e = absurd (omega arith)
nine_back (a ∷ []) e = absurd (omega arith)
nine_back (a ∷ b ∷ []) e = absurd (omega arith)
nine_back (a ∷ b ∷ c ∷ []) e = absurd (omega arith)
nine_back (a ∷ b ∷ c ∷ d ∷ []) e = absurd (omega arith)
nine_back (a ∷ b ∷ c ∷ d ∷ f ∷ []) e = absurd (omega arith)
nine_back (a ∷ b ∷ c ∷ d ∷ f ∷ g ∷ []) e = absurd (omega arith)
nine_back (a ∷ b ∷ c ∷ d ∷ f ∷ g ∷ h ∷ []) e = absurd (omega arith)
nine_back (a ∷ b ∷ c ∷ d ∷ f ∷ g ∷ h ∷ i ∷ []) e = absurd (omega arith)
nine_back (a ∷ b ∷ c ∷ d ∷ f ∷ g ∷ h ∷ i ∷ j ∷ []) e = refl
nine_back (a ∷ b ∷ c ∷ d ∷ f ∷ g ∷ h ∷ i ∷ j ∷ k ∷ xs) e = absurd (omega arith)

pub accuracy_back : (a : Accuracy) → length a.values ≡ 9 → accuracy_of (accuracy_values a) ≡ a
accuracy_back a e = ap (λ xs. record { values = xs }) (nine_back a.values e)

pub offset_back : (o : Offset) → offset_of (offset_values o) ≡ o
offset_back o = refl

flag_back : (f : LeapFlag) → flag_of (flag_number f) ≡ f
flag_back Removed = refl
flag_back NoLeap = refl
flag_back Added = refl

-- a row without its velocity
abbrev pub bare : Row → Row
bare r = record { at = r.at; flag = r.flag; position = r.position; velocity = None }

pub row_back : (r : Row) → row_of (position_values r) ≡ bare r
row_back r = λ i. record { at = sym (instant_of_self r.at) i; flag = flag_back r.flag i; position = r.position; velocity = None }

pub velocity_back : (v : Vector) → velocity_of (velocity_values v) ≡ v
velocity_back v = refl
