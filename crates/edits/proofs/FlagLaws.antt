-- Leap flags that stay, where rows are joined and where some are taken out.
use Rattle.std.proofs.Common.{◌≡◌, ℕ, Bool, true, false, ◌&&◌, List, [], ◌∷◌, ◌++◌, take, drop, sym, refl, ap, ◌∙◌}
use Rattle.std.proofs.lemmas.List.{take-append-drop}
use Rattle.std.proofs.lemmas.Bool.{and_from, and_parts}
use Rattle.model.specs.declared.LeapFlag.{LeapFlag}
use Rattle.model.specs.declared.LeapFlag.TheVariants.{Removed, NoLeap, Added}
use Rattle.model.specs.declared.Row.{Row}
use Rattle.model.specs.Flags.{allows}
use Rattle.cells.specs.declared.summary.Summary.{Summary}
use Rattle.cells.specs.Cells.{extended, extended_by}
use Rattle.edits.specs.Checks.{next_allowed, flags_stay}
use Rattle.edits.specs.Places.{last_row}

pub flag_by : (s : Summary) (r : Row) (rs : List Row) → s.flag ≡ r.flag → (extended_by s rs).flag ≡ (last_row r rs).flag
flag_by s r [] e = e
flag_by s r (x ∷ rs) e = flag_by (extended s x) x rs refl

-- the last of some rows allows the flag of the first of others
abbrev pub seam : List Row → List Row → Bool
seam [] ys = true
seam (x ∷ xs) ys = next_allowed (last_row x xs) ys

and_assoc : (a b c : Bool) → ((a && b) && c) ≡ (a && (b && c))
and_assoc true b c = refl
and_assoc false b c = refl

pub flags_append : (xs ys : List Row) → flags_stay (xs ++ ys) ≡ (flags_stay xs && (seam xs ys && flags_stay ys))
flags_append [] ys = refl
flags_append (x ∷ []) ys = refl
flags_append (x ∷ (y ∷ xs)) ys =
    ap (λ b. allows x.flag y.flag && b) (flags_append (y ∷ xs) ys)
    ∙ sym (and_assoc (allows x.flag y.flag) (flags_stay (y ∷ xs)) (seam (x ∷ (y ∷ xs)) ys && flags_stay ys))

pub flags_parts : (xs ys : List Row) → flags_stay (xs ++ ys) ≡ true → (flags_stay xs ≡ true) × (seam xs ys ≡ true) × (flags_stay ys ≡ true)
flags_parts xs ys h =
    let p = and_parts (flags_stay xs) (seam xs ys && flags_stay ys) (sym (flags_append xs ys) ∙ h) in
    let q = and_parts (seam xs ys) (flags_stay ys) p.1 in
    (p.0, q.0, q.1)

pub flags_join : (xs ys : List Row) → flags_stay xs ≡ true → seam xs ys ≡ true → flags_stay ys ≡ true → flags_stay (xs ++ ys) ≡ true
flags_join xs ys a b c = flags_append xs ys ∙ and_from (flags_stay xs) (seam xs ys && flags_stay ys) a (and_from (seam xs ys) (flags_stay ys) b c)

pub flags_take : (i : ℕ) (rows : List Row) → flags_stay rows ≡ true → flags_stay (take i rows) ≡ true
flags_take i rows h = (flags_parts (take i rows) (drop i rows) (ap flags_stay (take-append-drop i rows) ∙ h)).0

pub flags_drop : (i : ℕ) (rows : List Row) → flags_stay rows ≡ true → flags_stay (drop i rows) ≡ true
flags_drop i rows h = (flags_parts (take i rows) (drop i rows) (ap flags_stay (take-append-drop i rows) ∙ h)).2

-- a flag that is allowed by one that is allowed is allowed
pub allows_on : (f g h : LeapFlag) → allows f g ≡ true → allows g h ≡ true → allows f h ≡ true
allows_on NoLeap g h p q = refl
allows_on Removed Removed h p q = q
allows_on Removed NoLeap h p q = absurd (cc)
allows_on Removed Added h p q = absurd (cc)
allows_on Added Removed h p q = absurd (cc)
allows_on Added NoLeap h p q = absurd (cc)
allows_on Added Added h p q = q

-- a row taken out
without : (xs : List Row) (m : Row) (ys : List Row) → flags_stay (xs ++ (m ∷ ys)) ≡ true → flags_stay (xs ++ ys) ≡ true
without [] m ys h = (and_parts (next_allowed m ys) (flags_stay ys) h).1
without (x ∷ []) m [] h = refl
without (x ∷ []) m (y ∷ ys) h =
    let p = and_parts (allows x.flag m.flag) (flags_stay (m ∷ (y ∷ ys))) h in
    let q = and_parts (allows m.flag y.flag) (flags_stay (y ∷ ys)) p.1 in
    and_from (allows x.flag y.flag) (flags_stay (y ∷ ys)) (allows_on x.flag m.flag y.flag p.0 q.0) q.1
without (x ∷ (z ∷ xs)) m ys h =
    let p = and_parts (allows x.flag z.flag) (flags_stay (z ∷ (xs ++ (m ∷ ys)))) h in
    and_from (allows x.flag z.flag) (flags_stay (z ∷ (xs ++ ys))) p.0 (without (z ∷ xs) m ys p.1)

-- rows taken out of the middle
pub flags_without : (xs ms ys : List Row) → flags_stay (xs ++ (ms ++ ys)) ≡ true → flags_stay (xs ++ ys) ≡ true
flags_without xs [] ys h = h
flags_without xs (m ∷ ms) ys h = flags_without xs ms ys (without xs m (ms ++ ys) h)
