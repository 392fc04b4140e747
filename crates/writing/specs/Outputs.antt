-- Texts one behind the other in lent memory.
use Rattle.std.specs.Prelude.{◌≡◌, ℕ, ◌+◌, ◌^◌, ◌<◌, ◌≤◌, List, length}
use Rattle.writing.specs.declared.output.Output.{Output}
use Rattle.writing.specs.Places.{put_at}

-- the place of the next n bytes, where there is room for them
pub record Place (a : Output) (n at : ℕ) (b : Output) : Type 0 where
  pub begins : at ≡ a.len
  pub ends : b.len ≡ at + n
  pub inside : at + n ≤ length a.bytes.now

-- a text of at most so many bytes is added: it is counted, and written where there is room for it
pub record Puts (most : ℕ) (a : Output) (text : List ℕ) (b : Output) : Type 0 where
  pub short : length text ≤ most
  pub counted : a.len + length text < 2 ^ 128 → b.len ≡ a.len + length text
  pub written : a.len + length text ≤ length a.bytes.now → (b.len ≡ a.len + length text) × (b.bytes.now ≡ put_at a.bytes.now a.len text)
  pub room : length b.bytes.now ≡ length a.bytes.now
  pub same : b.bytes.ghost_name ≡ a.bytes.ghost_name
