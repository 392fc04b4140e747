-- What the calls answer.
use Rattle.std.proofs.Common.{◌≡◌, true, not, List, [], ◌∷◌, map, Some, None, Ok, Option, sym, refl, ap}
use Rattle.model.specs.declared.header.Header.{Header}
use Rattle.closed_sheet.specs.Answers.{header_answer}
use Rattle.edits.specs.Checks.{Answer, none}
use Rattle.edits.proofs.RuleLaws.{accepts}
use Rattle.refusal.specs.declared.Refusal.TheVariants.{NoFileOpen, JournalEmpty}
use Rattle.sheet.specs.States.{State, Past, entry_of, is_open, undo_answer}

pub open_by : (o : Option Header) (h : Header) → Ok h ≡ header_answer o → is_open o ≡ true
open_by None h e = absurd (cc)
open_by (Some k) h e = refl

pub undo_accepted : (s : State) (journal : List Past) (n : Past) (ns : List Past) → is_open s.header ≡ true → journal ≡ n ∷ ns → ◌≡◌ {A = Answer} (Ok tt) (undo_answer s (map entry_of journal))
undo_accepted s journal n ns o w = sym (accepts ((not (is_open s.header), NoFileOpen) ∷ (none (map entry_of journal), JournalEmpty) ∷ []) (ap not o, (ap (λ l. none (map entry_of l)) w, tt)))
