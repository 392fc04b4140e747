-- What an opening yields is good, so the canonical file of an opened file opens again.
use Rattle.std.specs.Prelude.{◌≡◌, ℕ, List, Ok}
use Rattle.writing.specs.Files.{canonical}
use Rattle.sheet.specs.Openings.{Contents, opened_from}
use Rattle.round_trip.specs.Contents.{GoodHeader, GoodRows}

pub record GoodContents (c : Contents) : Type 0 where
  pub header : GoodHeader c.header
  pub rows : GoodRows c.rows

-- whatever the bytes are
abbrev pub OpeningsAreGood : Type 0
OpeningsAreGood = (memory : ℕ) (file : List ℕ) (c : Contents) → opened_from memory file ≡ Ok c → GoodContents c

-- the canonical file of what was opened
abbrev rewritten : Contents → List ℕ
rewritten c = canonical c.header c.rows

-- it opens again with the same header and rows
abbrev pub RewrittenFilesOpen : Type 0
RewrittenFilesOpen = (memory : ℕ) (file : List ℕ) (c : Contents) → opened_from memory file ≡ Ok c → opened_from memory (rewritten c) ≡ Ok c

-- and what is written of it is the same file, byte for byte
abbrev pub RewritingSettles : Type 0
RewritingSettles = (memory : ℕ) (file : List ℕ) (c d : Contents) → opened_from memory file ≡ Ok c → opened_from memory (rewritten c) ≡ Ok d → rewritten d ≡ rewritten c
