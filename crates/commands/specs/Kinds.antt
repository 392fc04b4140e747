-- The commands: how each is named, and how many words it takes.
use Rattle.std.specs.Prelude.{ℕ, Bool, cond, ◌&&◌, List, [], ◌∷◌, Some, None, codes, Option, nat_le}
use Rattle.std.specs.Str.{bytes_eq}
use Rattle.commands.specs.declared.kind.Kind.{Kind}
use Rattle.commands.specs.declared.kind.Kind.TheVariants.{Sheet, Open, Paste, Cut, Undo, Cells, Journal, Show, Close, Row, Entry, Window, Lines, Write}

-- a name, and how many words follow it
pub record Form : Type 0 where
  pub name : List ℕ
  pub fewest : ℕ
  pub most : ℕ

abbrev pub form : List ℕ → ℕ → ℕ → Form
form name fewest most = record { name = name; fewest = fewest; most = most }

abbrev pub form_of : Kind → Form
form_of Sheet = form (codes "sheet") 2 2
form_of Open = form (codes "open") 1 1
form_of Paste = form (codes "paste") 1 1
form_of Cut = form (codes "cut") 4 4
form_of Undo = form (codes "undo") 0 0
form_of Cells = form (codes "cells") 0 0
form_of Journal = form (codes "journal") 0 0
form_of Show = form (codes "show") 0 0
form_of Close = form (codes "close") 0 0
form_of Row = form (codes "row") 1 1
form_of Entry = form (codes "entry") 1 1
form_of Window = form (codes "window") 2 5
form_of Lines = form (codes "lines") 3 3
form_of Write = form (codes "write") 1 1

abbrev pub kinds : List Kind
kinds =
    Sheet ∷ (Open ∷ (Paste ∷ (Cut ∷ (Undo ∷ (Cells ∷ (Journal ∷ (Show ∷ (Close ∷ (Row ∷ (Entry ∷ (Window ∷ (Lines ∷ (Write ∷ [])))))))))))))

-- the first of the kinds that goes by the name
abbrev pub named : List ℕ → List Kind → Option Kind
named name [] = None
named name (k ∷ ks) = cond (bytes_eq (form_of k).name name) (Some k) (named name ks)

unfoldable pub kind_of : List ℕ → Option Kind
kind_of name = named name kinds

-- whether so many words may follow the name
abbrev pub takes : Form → ℕ → Bool
takes f n = nat_le f.fewest n && nat_le n f.most
