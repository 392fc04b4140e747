-- A record's line is read back.
use Rattle.std.proofs.Common.{◌≡◌, ℕ, zero, suc, ◌+◌, ◌≤◌, true, List, [], ◌∷◌, ◌++◌, length, drop, replicate, Some, Ok, sym, refl, ap, ◌∙◌, subst, append_assoc, append-nil, arith}
use Rattle.std.specs.List.{AllByRecursion}
use Rattle.std.proofs.ByRecursion.{All-append, All-weaker}
use Rattle.std.proofs.lemmas.List.{length-append, drop_at}
use Rattle.std.proofs.lemmas.Bool.{and_parts}
use Rattle.lines.specs.Words.{words, stops}
use Rattle.lines.proofs.WordLaws.{Solid, first_word}
use Rattle.numbers.specs.Back.{Printable, OneWord}
use Rattle.records.specs.declared.field.Field.{Field}
use Rattle.records.specs.declared.field.Value.{Value}
use Rattle.records.specs.declared.record.Record.{Record}
use Rattle.records.specs.declared.record.Record.TheVariants as rec
use Rattle.records.specs.Types.{record_of}
use Rattle.records.specs.Tables.{fields_of}
use Rattle.records.specs.Reads.{onward, read_on, count_fits, read_record}
use Rattle.writing.specs.Texts.{type_text, text_by, field_text, fields_text}
use Rattle.writing.proofs.RecordLaws.{record_is, type_long}
use Rattle.round_trip.specs.Lines.{LineByte}
use Rattle.round_trip.specs.Goods.{GoodOn, GoodValues}
use Rattle.round_trip.specs.Records.{line_text, RecordsReadBack}
use Rattle.round_trip.proofs.Rooms.{room_of, fine_by, fine_fields, tables_fine, tables_room, longest, longest_le}
use Rattle.round_trip.proofs.FieldLaws.{Written, written}

-- spaces before a word
skip_spaces : (n : ℕ) (xs : List ℕ) → words (replicate n 32 ++ xs) ≡ words xs
skip_spaces zero xs = refl
skip_spaces (suc n) xs = skip_spaces n xs

solid : (w : List ℕ) → AllByRecursion Printable w → Solid w
solid [] a k h e = omega arith
solid (b ∷ w) a zero h e = omega (arith, a.0.0, e)
solid (b ∷ w) a (suc k) h e = solid w a.1 k (omega arith) e

one_word : (w rest : List ℕ) → OneWord w → stops rest ≡ true → words (w ++ rest) ≡ w ∷ words rest
one_word [] rest o s = absurd (omega (arith, o.1))
one_word (b ∷ w) rest o s = first_word b w rest (solid (b ∷ w) o.0) s

spaces_line : (n : ℕ) → AllByRecursion LineByte (replicate n 32)
spaces_line zero = tt
spaces_line (suc n) = ((omega arith, omega arith), spaces_line n)

word_line : (w : List ℕ) → AllByRecursion Printable w → AllByRecursion LineByte w
word_line w a = All-weaker Printable LineByte (λ b p. (omega arith, omega arith)) w a

-- the text of fields is that of words, which are read as the values
record FieldsBack (fs : List Field) (before vs : List Value) : Type 0 where
  begins : stops (fields_text fs vs) ≡ true
  bytes : AllByRecursion LineByte (fields_text fs vs)
  fits : length (fields_text fs vs) ≤ room_of fs
  count : length (words (fields_text fs vs)) ≡ length vs
  reads : (line : ℕ) → read_on line fs (words (fields_text fs vs)) before ≡ Ok (before ++ vs)

none_back : (fs : List Field) (before : List Value) → FieldsBack fs before []
unfolding fields_text
none_back [] before = record { begins = refl; bytes = tt; fits = omega arith; count = refl; reads = λ line. ap Ok (sym (append-nil before)) }
none_back (f ∷ fs) before = record { begins = refl; bytes = tt; fits = omega arith; count = refl; reads = λ line. ap Ok (sym (append-nil before)) }

-- a field before others
more_back : (f : Field) (fs : List Field) (before : List Value) (v : Value) (vs : List Value) → Written f.form f before v → FieldsBack fs (before ++ (v ∷ [])) vs → FieldsBack (f ∷ fs) before (v ∷ vs)
unfolding fields_text field_text
more_back f fs before v vs w r =
    let text = text_by f.form f v in
    let rest = fields_text fs vs in
    let line : AllByRecursion LineByte text = subst (λ l. AllByRecursion LineByte l) (sym w.text) (All-append LineByte (replicate w.spaces 32) w.word (spaces_line w.spaces) (word_line w.word w.one.0)) in
    let split : words (text ++ rest) ≡ w.word ∷ words rest =
    ap (λ l. words (l ++ rest)) w.text ∙ ap words (append_assoc (replicate w.spaces 32) w.word rest) ∙ skip_spaces w.spaces (w.word ++ rest) ∙ one_word w.word rest w.one r.begins in
    record {
      begins = refl;
      bytes = ((omega arith, omega arith), All-append LineByte text rest line r.bytes);
      fits = omega (arith, length-append text rest, w.fits, r.fits);
      count = ap length split ∙ omega (arith, r.count);
      reads = λ line.
          ap (λ ws. read_on line (f ∷ fs) ws before) split
          ∙ ap (λ x. onward x line (length before + 2) (λ y. read_on line fs (words rest) (before ++ (y ∷ [])))) w.value
          ∙ r.reads line ∙ ap Ok (append_assoc before (v ∷ []) vs);
    }

fields_back : (fs : List Field) (before vs : List Value) → fine_fields fs ≡ true → GoodOn fs before vs → FieldsBack fs before vs
fields_back fs before [] fine g = none_back fs before
fields_back [] before (v ∷ vs) fine g = absurd g
fields_back (f ∷ fs) before (v ∷ vs) fine g =
    let p = and_parts (fine_by f.form f) (fine_fields fs) fine in
    more_back f fs before v vs (written f.form f before v p.0 g.0) (fields_back fs (before ++ (v ∷ [])) vs p.1 g.1)

type_line : (t : Record) → AllByRecursion LineByte (type_text t)
type_line rec.H1 = ((omega arith, omega arith), ((omega arith, omega arith), tt))
type_line rec.H2 = ((omega arith, omega arith), ((omega arith, omega arith), tt))
type_line rec.H3 = ((omega arith, omega arith), ((omega arith, omega arith), tt))
type_line rec.H5 = ((omega arith, omega arith), ((omega arith, omega arith), tt))
type_line rec.H9 = ((omega arith, omega arith), ((omega arith, omega arith), tt))
type_line rec.Position = ((omega arith, omega arith), ((omega arith, omega arith), tt))
type_line rec.Velocity = ((omega arith, omega arith), ((omega arith, omega arith), tt))
type_line rec.Comment = ((omega arith, omega arith), ((omega arith, omega arith), tt))
type_line rec.Trailer = ((omega arith, omega arith), ((omega arith, omega arith), tt))

-- a record's type, before nothing or a space
type_back : (t : Record) (rest : List ℕ) → stops rest ≡ true → record_of (type_text t ++ rest) ≡ Some t
type_back rec.H1 [] s = refl
type_back rec.H2 [] s = refl
type_back rec.H3 [] s = refl
type_back rec.H5 [] s = refl
type_back rec.H9 [] s = refl
type_back rec.Position [] s = refl
type_back rec.Velocity [] s = refl
type_back rec.Comment [] s = refl
type_back rec.Trailer [] s = refl
type_back rec.H1 (c ∷ rest) s = rw s
type_back rec.H2 (c ∷ rest) s = rw s
type_back rec.H3 (c ∷ rest) s = rw s
type_back rec.H5 (c ∷ rest) s = rw s
type_back rec.H9 (c ∷ rest) s = rw s
type_back rec.Position (c ∷ rest) s = rw s
type_back rec.Velocity (c ∷ rest) s = rw s
type_back rec.Comment (c ∷ rest) s = rw s
type_back rec.Trailer (c ∷ rest) s = rw s

line_is : (t : Record) (vs : List Value) → line_text t vs ≡ type_text t ++ fields_text (fields_of t) vs
unfolding line_text
line_is t vs = refl

-- how long a record's line is at most
pub line_le : (t : Record) (vs : List Value) → GoodValues t vs → length (line_text t vs) ≤ longest t
line_le t vs g =
    let b = fields_back (fields_of t) [] vs (tables_fine t) g.each in
    omega (arith, ap length (line_is t vs), length-append (type_text t) (fields_text (fields_of t) vs), type_long t, tables_room t, b.fits)

pub records_read_back : RecordsReadBack
records_read_back t vs g =
    let b = fields_back (fields_of t) [] vs (tables_fine t) g.each in
    let text = fields_text (fields_of t) vs in
    let fits : count_fits t (length (words text)) ≡ true = ap (count_fits t) b.count ∙ g.count in
    record {
      text = record_is t vs ∙ sym (ap (λ l. l ++ (10 ∷ [])) (line_is t vs) ∙ append_assoc (type_text t) text (10 ∷ []));
      line = record { bytes = subst (λ l. AllByRecursion LineByte l) (sym (line_is t vs)) (All-append LineByte (type_text t) text (type_line t) b.bytes); short = omega (arith, line_le t vs g, longest_le t) };
      type = ap record_of (line_is t vs) ∙ type_back t text b.begins;
      values = λ number. ap (λ l. read_record number t (drop 2 l)) (line_is t vs) ∙ ap (read_record number t) (drop_at (type_text t) text 2 (type_long t)) ∙ rw fits (b.reads number);
    }
