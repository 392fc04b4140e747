use Rattle.std.proofs.Common.{◌≡◌, ℕ, zero, suc, ◌+◌, ◌<◌, ◌≤◌, Bool, true, false, eqb, List, [], ◌∷◌, length, get_or, take, drop, Ok, Err, Result, sym, refl, ◌∙◌, arith}
use Rattle.std.specs.List.{list_all, range_with_len}
use Rattle.std.proofs.lemmas.Bool.{eqb-true, and_parts}
use denote.Enum.Bare.{sameb}
use Rattle.refusal.specs.declared.Refusal.{Refusal}
use Rattle.model.specs.contracts.LeapFlag.{the_type}
use Rattle.model.specs.declared.LeapFlag.{LeapFlag}
use Rattle.model.specs.declared.LeapFlag.TheVariants.{Removed, NoLeap, Added}
use Rattle.tables.specs.Lines.{place}
use Rattle.tables.specs.Windows.{flag_place, all_flag, same_flags}
use Rattle.tables.proofs.Places.{place_in, cut_more}

pub flag_same : (f g : LeapFlag) → flag_place f ≡ flag_place g → f ≡ g
flag_same Removed Removed e = refl
flag_same Removed NoLeap e = absurd (omega arith)
flag_same Removed Added e = absurd (omega arith)
flag_same NoLeap Removed e = absurd (omega arith)
flag_same NoLeap NoLeap e = refl
flag_same NoLeap Added e = absurd (omega arith)
flag_same Added Removed e = absurd (omega arith)
flag_same Added NoLeap e = absurd (omega arith)
flag_same Added Added e = refl

-- what `==` says of two flags
flags_compared : (f g : LeapFlag) → sameb the_type f g ≡ eqb (flag_place f) (flag_place g)
flags_compared Removed Removed = refl
flags_compared Removed NoLeap = refl
flags_compared Removed Added = refl
flags_compared NoLeap Removed = refl
flags_compared NoLeap NoLeap = refl
flags_compared NoLeap Added = refl
flags_compared Added Removed = refl
flags_compared Added NoLeap = refl
flags_compared Added Added = refl

-- whether what was read at a place is that flag
abbrev pub is_flag : LeapFlag → Result LeapFlag Refusal → Bool
is_flag f (Ok g) = eqb (flag_place g) (flag_place f)
is_flag f (Err e) = false

pub flag_read : (r : Result LeapFlag Refusal) (f g : LeapFlag) (same : Bool) → Ok g ≡ r → same ≡ sameb the_type g f → same ≡ is_flag f r
flag_read r f g same p d = rw (sym p, d) (flags_compared g f)

next_flag : (fs : List LeapFlag) (f : LeapFlag) (n a : ℕ) (r : Result LeapFlag Refusal) → r ≡ place fs a → a + suc n ≤ length fs
    → list_all (λ k. is_flag f (place fs k)) (range_with_len (a + 1) n) ≡ all_flag f (take n (drop (a + 1) fs))
    → list_all (λ k. is_flag f (place fs k)) (range_with_len a (suc n)) ≡ all_flag f (take (suc n) (drop a fs))
next_flag fs f n a (Ok g) p h e = rw (sym p, cut_more fs a n g p, e) refl
next_flag fs f n a (Err e) p h i = let k = place_in fs a (Err e) p (omega arith) in absurd (cc)

-- the flags from a place on, read one by one
pub flags_in_turn : (fs : List LeapFlag) (f : LeapFlag) (n a : ℕ) → a + n ≤ length fs → list_all (λ k. is_flag f (place fs k)) (range_with_len a n) ≡ all_flag f (take n (drop a fs))
flags_in_turn fs f zero a h = refl
flags_in_turn fs f (suc n) a h = next_flag fs f n a (place fs a) refl h (flags_in_turn fs f n (a + 1) (omega arith))

all_flag_at : (f : LeapFlag) (gs : List LeapFlag) → all_flag f gs ≡ true → (k : ℕ) (d : LeapFlag) → k < length gs → get_or gs k d ≡ f
all_flag_at f [] h k d l = absurd (omega arith)
all_flag_at f (g ∷ gs) h zero d l = flag_same g f (eqb-true (flag_place g) (flag_place f) (and_parts (eqb (flag_place g) (flag_place f)) (all_flag f gs) h).0)
all_flag_at f (g ∷ gs) h (suc k) d l = all_flag_at f gs (and_parts (eqb (flag_place g) (flag_place f)) (all_flag f gs) h).1 k d (omega arith)

-- any two of flags that are the same are equal
pub same_flags_at : (fs : List LeapFlag) → same_flags fs ≡ true → (j k : ℕ) (d : LeapFlag) → j < length fs → k < length fs → get_or fs j d ≡ get_or fs k d
same_flags_at [] h j k d p q = absurd (omega arith)
same_flags_at (f ∷ fs) h zero zero d p q = refl
same_flags_at (f ∷ fs) h zero (suc k) d p q = sym (all_flag_at f fs h k d (omega arith))
same_flags_at (f ∷ fs) h (suc j) zero d p q = all_flag_at f fs h j d (omega arith)
same_flags_at (f ∷ fs) h (suc j) (suc k) d p q = all_flag_at f fs h j d (omega arith) ∙ sym (all_flag_at f fs h k d (omega arith))
