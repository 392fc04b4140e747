-- The three parts of ascending rows: joined again they are the rows, and an edit can be undone.
use Rattle.std.proofs.Common.{◌≡◌, ℕ, ◌+◌, ◌<◌, ◌≤◌, Bool, true, false, cond, ◌&&◌, ltb, List, [], ◌∷◌, ◌++◌, length, take, drop, sym, refl, ap, ◌∙◌, ⊎_elim, arith}
use Rattle.std.proofs.lemmas.List.{take_at, drop_at, drop-drop, length-append}
use Rattle.std.proofs.lemmas.Bool.{ltb-true, lt-ltb, le-ltb, cond-true, cond-false, false≢true, cases_lt, and_parts, and_from}
use Rattle.model.specs.declared.Row.{Row}
use Rattle.tables.specs.Lines.{ascends}
use Rattle.journal.specs.declared.journal.Edit.{Edit}
use Rattle.edits.specs.Changes.{moment_of, first_moment, last_moment, before, behind, between, change_of, restored}
use Rattle.edits.specs.Checks.{none}

-- the rows ascend, and the first is after x
abbrev pub later : ℕ → List Row → Bool
later x [] = true
later x (r ∷ rs) = ltb x (moment_of r) && ascends (r ∷ rs)

pub ascends_later : (r : Row) (rs : List Row) → ascends (r ∷ rs) ≡ later (moment_of r) rs
ascends_later r [] = refl
ascends_later r (s ∷ rs) = refl

pub later_parts : (z : ℕ) (r : Row) (rs : List Row) → later z (r ∷ rs) ≡ true → (z < moment_of r) × (later (moment_of r) rs ≡ true)
later_parts z r rs h =
    let p = and_parts (ltb z (moment_of r)) (ascends (r ∷ rs)) h in
    (ltb-true z (moment_of r) p.0, sym (ascends_later r rs) ∙ p.1)

pub later_from : (z : ℕ) (r : Row) (rs : List Row) → z < moment_of r → later (moment_of r) rs ≡ true → later z (r ∷ rs) ≡ true
later_from z r rs l h = and_from (ltb z (moment_of r)) (ascends (r ∷ rs)) (lt-ltb z (moment_of r) l) (ascends_later r rs ∙ h)

pub later_weaker : (u z : ℕ) (rs : List Row) → u ≤ z → later z rs ≡ true → later u rs ≡ true
later_weaker u z [] l h = refl
later_weaker u z (r ∷ rs) l h = let p = later_parts z r rs h in let k = p.0 in later_from u r rs (omega arith) p.1

pub later_ascends : (z : ℕ) (rs : List Row) → later z rs ≡ true → ascends rs ≡ true
later_ascends z [] h = refl
later_ascends z (r ∷ rs) h = ascends_later r rs ∙ (later_parts z r rs h).1

pub ascends_tail : (r : Row) (rs : List Row) → ascends (r ∷ rs) ≡ true → later (moment_of r) rs ≡ true
ascends_tail r rs h = sym (ascends_later r rs) ∙ h

-- the parts of a first row and the rest, by where the first row stands
module _ (r : Row) (rs : List Row) where
  pub before_in : (x : ℕ) → moment_of r < x → before x (r ∷ rs) ≡ r ∷ before x rs
  before_in x l = cond-true (ltb (moment_of r) x) (r ∷ before x rs) (before x rs) (lt-ltb (moment_of r) x l)

  pub before_out : (x : ℕ) → x ≤ moment_of r → before x (r ∷ rs) ≡ before x rs
  before_out x l = cond-false (ltb (moment_of r) x) (r ∷ before x rs) (before x rs) (le-ltb (moment_of r) x l)

  pub behind_in : (y : ℕ) → y < moment_of r → behind y (r ∷ rs) ≡ r ∷ behind y rs
  behind_in y l = cond-true (ltb y (moment_of r)) (r ∷ behind y rs) (behind y rs) (lt-ltb y (moment_of r) l)

  pub behind_out : (y : ℕ) → moment_of r ≤ y → behind y (r ∷ rs) ≡ behind y rs
  behind_out y l = cond-false (ltb y (moment_of r)) (r ∷ behind y rs) (behind y rs) (le-ltb y (moment_of r) l)

  pub between_low : (x y : ℕ) → moment_of r < x → between x y (r ∷ rs) ≡ between x y rs
  between_low x y l = cond-true (ltb (moment_of r) x) (between x y rs) (cond (ltb y (moment_of r)) (between x y rs) (r ∷ between x y rs)) (lt-ltb (moment_of r) x l)

  pub between_high : (x y : ℕ) → x ≤ moment_of r → y < moment_of r → between x y (r ∷ rs) ≡ between x y rs
  between_high x y l h =
      cond-false (ltb (moment_of r) x) (between x y rs) (cond (ltb y (moment_of r)) (between x y rs) (r ∷ between x y rs)) (le-ltb (moment_of r) x l)
      ∙ cond-true (ltb y (moment_of r)) (between x y rs) (r ∷ between x y rs) (lt-ltb y (moment_of r) h)

  pub between_in : (x y : ℕ) → x ≤ moment_of r → moment_of r ≤ y → between x y (r ∷ rs) ≡ r ∷ between x y rs
  between_in x y l h =
      cond-false (ltb (moment_of r) x) (between x y rs) (cond (ltb y (moment_of r)) (between x y rs) (r ∷ between x y rs)) (le-ltb (moment_of r) x l)
      ∙ cond-false (ltb y (moment_of r)) (between x y rs) (r ∷ between x y rs) (le-ltb y (moment_of r) h)

pub before_none : (x z : ℕ) (rs : List Row) → x ≤ z → later z rs ≡ true → before x rs ≡ []
before_none x z [] l h = refl
before_none x z (r ∷ rs) l h = let p = later_parts z r rs h in let k = p.0 in before_out r rs x (omega arith) ∙ before_none x (moment_of r) rs (omega arith) p.1

pub between_none : (x y z : ℕ) (rs : List Row) → x ≤ y → y ≤ z → later z rs ≡ true → between x y rs ≡ []
between_none x y z [] m l h = refl
between_none x y z (r ∷ rs) m l h = let p = later_parts z r rs h in let k = p.0 in between_high r rs x y (omega arith) (omega arith) ∙ between_none x y (moment_of r) rs m (omega arith) p.1

pub behind_all : (y z : ℕ) (rs : List Row) → y ≤ z → later z rs ≡ true → behind y rs ≡ rs
behind_all y z [] l h = refl
behind_all y z (r ∷ rs) l h = let p = later_parts z r rs h in let k = p.0 in behind_in r rs y (omega arith) ∙ ap (λ t. r ∷ t) (behind_all y (moment_of r) rs (omega arith) p.1)

join3 : {X : Type 0} {a a' b b' c c' : List X} → a ≡ a' → b ≡ b' → c ≡ c' → a ++ (b ++ c) ≡ a' ++ (b' ++ c')
join3 p q r = cc

-- the three parts are the rows
pub split : (x y : ℕ) (rows : List Row) → x ≤ y → ascends rows ≡ true → before x rows ++ (between x y rows ++ behind y rows) ≡ rows
split x y [] m h = refl
split x y (r ∷ rs) m g =
    let h = ascends_tail r rs g in
    let rec = split x y rs m (later_ascends (moment_of r) rs h) in
    ⊎_elim
    (λ (l : moment_of r < x). join3 (before_in r rs x l) (between_low r rs x y l) (behind_out r rs y (omega arith)) ∙ ap (λ t. r ∷ t) rec)
    (λ (l : x ≤ moment_of r).
    let n = before_none x (moment_of r) rs l h in
    ⊎_elim
    (λ (k : y < moment_of r). join3 (before_out r rs x l ∙ n) (between_high r rs x y l k ∙ between_none x y (moment_of r) rs m (omega arith) h) (behind_in r rs y k ∙ ap (λ t. r ∷ t) (behind_all y (moment_of r) rs (omega arith) h)))
    (λ (k : moment_of r ≤ y). join3 (before_out r rs x l ∙ n) (between_in r rs x y l k) (behind_out r rs y k) ∙ ap (λ t. r ∷ t) (ap (λ t. t ++ (between x y rs ++ behind y rs)) (sym n) ∙ rec))
    (cases_lt y (moment_of r)))
    (cases_lt (moment_of r) x)

-- what was put in goes out, and what was taken out comes back
pub undone : (k : Edit) (x y : ℕ) (block rows : List Row) → x ≤ y → ascends rows ≡ true
    → restored (change_of k x y block rows).entry (change_of k x y block rows).out (change_of k x y block rows).rows ≡ rows
undone k x y block rows m h =
    let B = before x rows in
    let A = behind y rows in
    let L = B ++ (block ++ A) in
    let t : take (length B) L ≡ B = take_at B (block ++ A) (length B) refl in
    let d : drop (length B + length block) L ≡ A = sym (drop-drop (length block) (length B) L) ∙ ap (drop (length block)) (drop_at B (block ++ A) (length B) refl) ∙ drop_at block A (length block) refl in
    join3 t refl d ∙ split x y rows m h

-- ASCENDING

pub later_join : (x z : ℕ) (rs t : List Row) → z < x → later z rs ≡ true → ((u : ℕ) → u < x → later u t ≡ true) → later z (before x rs ++ t) ≡ true
later_join x z [] t l h f = f z l
later_join x z (r ∷ rs) t l h f =
    let p = later_parts z r rs h in
    ⊎_elim
    (λ (k : moment_of r < x). ap (λ s. later z (s ++ t)) (before_in r rs x k) ∙ later_from z r (before x rs ++ t) p.0 (later_join x (moment_of r) rs t k p.1 f))
    (λ (k : x ≤ moment_of r). ap (λ s. later z (s ++ t)) (before_out r rs x k ∙ before_none x (moment_of r) rs k p.1) ∙ f z l)
    (cases_lt (moment_of r) x)

pub ascends_join : (x : ℕ) (rows t : List Row) → ascends rows ≡ true → ascends t ≡ true → ((u : ℕ) → u < x → later u t ≡ true) → ascends (before x rows ++ t) ≡ true
ascends_join x [] t h g f = g
ascends_join x (r ∷ rs) t o g f =
    let h = ascends_tail r rs o in
    ⊎_elim
    (λ (k : moment_of r < x). ap (λ s. ascends (s ++ t)) (before_in r rs x k) ∙ ascends_later r (before x rs ++ t) ∙ later_join x (moment_of r) rs t k h f)
    (λ (k : x ≤ moment_of r). ap (λ s. ascends (s ++ t)) (before_out r rs x k ∙ before_none x (moment_of r) rs k h) ∙ g)
    (cases_lt (moment_of r) x)

pub behind_later : (y : ℕ) (rows : List Row) → ascends rows ≡ true → later y (behind y rows) ≡ true
behind_later y [] h = refl
behind_later y (r ∷ rs) o =
    let h = ascends_tail r rs o in
    ⊎_elim
    (λ (k : y < moment_of r). ap (later y) (behind_in r rs y k ∙ ap (λ t. r ∷ t) (behind_all y (moment_of r) rs (omega arith) h)) ∙ later_from y r rs k h)
    (λ (k : moment_of r ≤ y). ap (later y) (behind_out r rs y k) ∙ behind_later y rs (later_ascends (moment_of r) rs h))
    (cases_lt y (moment_of r))

-- the block stands in front of what is later than its last row
pub later_block : (b : Row) (bs t : List Row) → later (moment_of b) bs ≡ true → later (last_moment (b ∷ bs)) t ≡ true → later (moment_of b) (bs ++ t) ≡ true
later_block b [] t h g = g
later_block b (q ∷ bs) t h g = let p = later_parts (moment_of b) q bs h in later_from (moment_of b) q (bs ++ t) p.0 (later_block q bs t p.1 g)

pub first_last : (b : Row) (bs : List Row) → later (moment_of b) bs ≡ true → moment_of b ≤ last_moment (b ∷ bs)
first_last b [] h = omega arith
first_last b (q ∷ bs) h = let p = later_parts (moment_of b) q bs h in let k = p.0 in let l = first_last q bs p.1 in omega arith

pub ordered_block : (block : List Row) → none block ≡ false → ascends block ≡ true → first_moment block ≤ last_moment block
ordered_block [] n h = absurd (false≢true (sym n))
ordered_block (b ∷ bs) n h = first_last b bs (ascends_tail b bs h)

pub paste_ascends : (k : Edit) (block rows : List Row) → none block ≡ false → ascends block ≡ true → ascends rows ≡ true → ascends (change_of k (first_moment block) (last_moment block) block rows).rows ≡ true
paste_ascends k [] rows n g h = absurd (false≢true (sym n))
paste_ascends k (b ∷ bs) rows n g h =
    let y = last_moment (b ∷ bs) in
    let t : later (moment_of b) (bs ++ behind y rows) ≡ true = later_block b bs (behind y rows) (ascends_tail b bs g) (behind_later y rows h) in
    ascends_join (moment_of b) rows (b ∷ (bs ++ behind y rows)) h (ascends_later b (bs ++ behind y rows) ∙ t) (λ u l. later_from u b (bs ++ behind y rows) l t)

pub cut_ascends : (k : Edit) (x y : ℕ) (rows : List Row) → x ≤ y → ascends rows ≡ true → ascends (change_of k x y [] rows).rows ≡ true
cut_ascends k x y rows m h =
    let t = behind_later y rows h in
    ascends_join x rows (behind y rows) h (later_ascends y (behind y rows) t) (λ u l. later_weaker u y (behind y rows) (omega arith) t)

-- a row that stands from x to y
pub some_between : (x y : ℕ) (rows : List Row) → none (between x y rows) ≡ false → x ≤ y
some_between x y [] n = absurd (false≢true (sym n))
some_between x y (r ∷ rs) n =
    ⊎_elim
    (λ (l : moment_of r < x). some_between x y rs (ap none (sym (between_low r rs x y l)) ∙ n))
    (λ (l : x ≤ moment_of r). ⊎_elim
    (λ (k : y < moment_of r). some_between x y rs (ap none (sym (between_high r rs x y l k)) ∙ n))
    (λ (k : moment_of r ≤ y). let z : x ≤ y = omega arith in z)
    (cases_lt y (moment_of r)))
    (cases_lt (moment_of r) x)

pub cut_shorter : (k : Edit) (x y : ℕ) (rows : List Row) → x ≤ y → ascends rows ≡ true → length (change_of k x y [] rows).rows ≤ length rows
cut_shorter k x y rows m h =
    let e = ap length (split x y rows m h) in
    let a = length-append (before x rows) (between x y rows ++ behind y rows) in
    let b = length-append (between x y rows) (behind y rows) in
    let c = length-append (before x rows) (behind y rows) in
    omega arith

pub paste_some : (k : Edit) (x y : ℕ) (block rows : List Row) → none block ≡ false → none (change_of k x y block rows).rows ≡ false
paste_some k x y [] rows n = absurd (false≢true (sym n))
paste_some k x y (b ∷ bs) rows n = joined (before x rows)
  where
    joined : (l : List Row) → none (l ++ (b ∷ (bs ++ behind y rows))) ≡ false
    joined [] = refl
    joined (q ∷ l) = refl
