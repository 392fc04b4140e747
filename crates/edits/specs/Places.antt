-- What the search for the place of an edit comes to.
use Rattle.std.specs.Prelude.{◌≡◌, ℕ, ◌+◌, ◌-◌, ◌≤◌, Bool, true, List, [], ◌∷◌, length, Ok, Err, Result, MatchResult}
use Rattle.refusal.specs.declared.Refusal.{Refusal}
use Rattle.model.specs.declared.LeapFlag.{LeapFlag}
use Rattle.model.specs.declared.Row.{Row}
use Rattle.model.specs.Flags.{allows}
use Rattle.journal.specs.declared.journal.Edit.{Edit}
use Rattle.edits.specs.declared.place.Place.{Place}
use Rattle.edits.specs.Changes.{Change, change_at}
use Rattle.edits.specs.Checks.{Answer, in_order}

-- the change is the one at this place, which has room among so many rows, and for the rows taken out
pub record Ready (limit hold : ℕ) (edit : Edit) (block rows : List Row) (c : Change) (p : Place) : Type 0 where
  pub same : c ≡ change_at edit p.first p.end block rows
  pub order : p.first ≤ p.end
  pub inside : p.end ≤ length rows
  pub put : p.put ≡ length block
  pub size : p.first + p.put + (length rows - p.end) ≤ limit
  pub taken : p.end - p.first ≤ hold
  pub sound : in_order (change_at edit p.first p.end block rows).rows ≡ true

-- the answer that the checks give, and the place where they accept
abbrev pub Decided : Answer → ℕ → ℕ → Edit → List Row → List Row → Change → Result Place Refusal → Type 0
Decided answer limit hold edit block rows c r = MatchResult r (λ p. (answer ≡ Ok tt) × Ready limit hold edit block rows c p) (λ e. answer ≡ Err e)

-- the last of the rows allows the flag, and the flag allows that of the first of the rows
abbrev pub last_row : Row → List Row → Row
last_row r [] = r
last_row r (s ∷ rs) = last_row s rs

abbrev pub last_allows : List Row → LeapFlag → Bool
last_allows [] f = true
last_allows (r ∷ rs) f = allows (last_row r rs).flag f

abbrev pub allows_first : LeapFlag → List Row → Bool
allows_first f [] = true
allows_first f (r ∷ rs) = allows f r.flag
