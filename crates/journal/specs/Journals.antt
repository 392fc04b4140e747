use Rattle.std.specs.Prelude.{◌≡◌, ℕ, ◌+◌, ◌<◌, ◌≤◌, List, [], ◌∷◌, length, take}
use Rattle.journal.specs.declared.journal.Entry.{Entry}
use Rattle.journal.specs.declared.journal.Journal.{Journal}

-- the entries of a journal, the newest first
abbrev pub entries_of : Journal → List Entry
entries_of j = take j.len j.entries

-- how many rows some edits took out
abbrev pub taken_by : List Entry → ℕ
taken_by [] = 0
taken_by (e ∷ es) = e.taken + taken_by es

-- beside an edit that takes out n rows the k newest entries may stay: 15 or fewer, and all taken rows fit the memory for them
pub record Stay (hold n : ℕ) (es : List Entry) (k : ℕ) : Type 0 where
  pub some : k ≤ length es
  pub few : k ≤ 15
  pub fit : taken_by (take k es) + n ≤ hold

-- the fewest are forgotten: no more may stay
pub record Keeps (hold n : ℕ) (es : List Entry) (k : ℕ) : Type 0 where
  pub stay : Stay hold n es k
  pub most : (m : ℕ) → Stay hold n es m → m ≤ k

-- the k newest entries, 15 or fewer, took out n rows, which fit the room; one entry more would not fit
pub record Fitting (room : ℕ) (es : List Entry) (k n : ℕ) : Type 0 where
  pub some : k ≤ length es
  pub few : k ≤ 15
  pub total : n ≡ taken_by (take k es)
  pub fit : n ≤ room
  pub most : k < 15 → k < length es → room < taken_by (take (k + 1) es)
