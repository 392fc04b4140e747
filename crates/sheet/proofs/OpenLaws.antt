-- What an opening leaves.
use Rattle.std.proofs.Common.{◌≡◌, ℕ, ◌≤◌, min, true, List, [], length, take, ◌∙◌}
use Rattle.model.specs.declared.Row.{Row}
use Rattle.journal.specs.declared.journal.Entry.{Entry}
use Rattle.edits.specs.Checks.{in_order}
use Rattle.sheet.specs.Sound.{pasts_of, is_sound}
use Rattle.sheet.proofs.SoundLaws.{sound_from}

-- the rows are those of the file, in a memory as large as before
pub sound_open : (room n : ℕ) (rows t : List Row) (new : List Entry) (held : List Row) → take n t ≡ rows → length t ≡ room → length rows ≤ min room 8192 → in_order rows ≡ true → new ≡ []
    → is_sound (length t) (take n t) (pasts_of new held) ≡ true
sound_open room n rows t new held r k few o e = (λ p. is_sound (k p) (r p) (pasts_of (e p) held)) ∙ sound_from room rows [] (o, few)
