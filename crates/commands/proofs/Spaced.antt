-- The words of a line that is made of words.
use Rattle.std.proofs.Common.{◌≡◌, ℕ, true, List, [], ◌∷◌, ◌++◌, sym, refl, ap, ◌∙◌, append-nil, arith}
use Rattle.std.specs.List.{AllByRecursion}
use Rattle.std.proofs.ByRecursion.{All-get_or}
use Rattle.lines.specs.Words.{stops, words}
use Rattle.lines.proofs.WordLaws.{first_word}
use Rattle.commands.specs.Texts.{OneWord, spaced}

front : (w rest : List ℕ) → OneWord w → stops rest ≡ true → words (w ++ rest) ≡ w ∷ words rest
front [] rest o e = absurd (omega (arith, o.0))
front (b ∷ w) rest o e = first_word b w rest (λ k h. All-get_or (λ b. b ≡ 32 → ⊥) (b ∷ w) k 0 h o.1) e

pub words_spaced : (ws : List (List ℕ)) → AllByRecursion OneWord ws → words (spaced ws) ≡ ws
words_spaced [] all = refl
words_spaced (w ∷ []) all = ap words (sym (append-nil w)) ∙ front w [] all.0 refl
words_spaced (w ∷ (v ∷ ws)) all = front w (32 ∷ spaced (v ∷ ws)) all.0 refl ∙ ap (λ l. w ∷ l) (words_spaced (v ∷ ws) all.1)
