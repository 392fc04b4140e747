-- What is written of a record is read back.
use Rattle.std.specs.Prelude.{◌≡◌, ℕ, List, [], ◌∷◌, ◌++◌, drop, Some, Ok}
use Rattle.records.specs.declared.field.Value.{Value}
use Rattle.records.specs.declared.record.Record.{Record}
use Rattle.records.specs.Types.{record_of}
use Rattle.records.specs.Reads.{read_record}
use Rattle.records.specs.Tables.{fields_of}
use Rattle.writing.specs.Texts.{type_text, fields_text, record_text}
use Rattle.round_trip.specs.Lines.{IsLine}
use Rattle.round_trip.specs.Goods.{GoodValues}

-- the line of a record without its end
unfoldable pub line_text : Record → List Value → List ℕ
line_text t vs = type_text t ++ fields_text (fields_of t) vs

-- the text of a record is a line and its end; the line has the record's type and its values
pub record ReadsBack (t : Record) (vs : List Value) : Type 0 where
  pub text : record_text t vs ≡ line_text t vs ++ (10 ∷ [])
  pub line : IsLine (line_text t vs)
  pub type : record_of (line_text t vs) ≡ Some t
  pub values : (number : ℕ) → read_record number t (drop 2 (line_text t vs)) ≡ Ok vs

abbrev pub RecordsReadBack : Type 0
RecordsReadBack = (t : Record) (vs : List Value) → GoodValues t vs → ReadsBack t vs
