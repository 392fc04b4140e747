-- Entries in the order of the format are read to the end.
use Rattle.std.proofs.Common.{◌≡◌, ℕ, true, List, [], ◌∷◌, ◌++◌, Some, None, Ok, Option, sym, refl, ap, ◌∙◌, subst}
use Rattle.std.specs.List.{AllByRecursion}
use Rattle.model.specs.declared.Row.{Row}
use Rattle.model.specs.declared.header.Header.{Header}
use Rattle.cells.specs.declared.summary.Summary.{Summary}
use Rattle.cells.specs.Cells.{extended, extended_by, summary_if, summary_with}
use Rattle.cells.specs.Cells as cells
use Rattle.records.specs.declared.record.Record.{Record}
use Rattle.records.specs.declared.record.Record.TheVariants as rec
use Rattle.records.specs.declared.field.Value.{Value}
use Rattle.records.specs.Types.{is_comment}
use Rattle.records.specs.Tables.{fields_of}
use Rattle.reading.specs.declared.scan.Scan.{Scan}
use Rattle.reading.specs.declared.build.Span.{Span}
use Rattle.reading.specs.declared.stage.Stage.{Stage}
use Rattle.reading.specs.declared.stage.Stage.TheVariants as at
use Rattle.reading.specs.declared.stage.Part.TheVariants as part
use Rattle.reading.specs.Order.{rows_done, next_stage}
use Rattle.records.specs.Builds.{origin_of, satellite_of}
use Rattle.reading.specs.Builds.{span_of, row_of}
use Rattle.reading.specs.Scans.{started, row_refusal, with_row, on_ok, taken, with_stage}
use Rattle.reading.specs.Ends.{end_refusal}
use Rattle.format.specs.Format.{Entry, entry, without_comments, maybe, positions, position_rows, Both, pairs, pair_rows, AreRows, plain, moving, accuracy_if, offset_if}
use Rattle.numbers.proofs.Taken.{by_bool}
use Rattle.format.proofs.StepLaws.{is_comment_lem, Follows, Scanned}
use Rattle.format.proofs.RowLaws.{Source, file, block, state, RoomAfter, May, Chain, may_complete, first_complete}
use Rattle.format.proofs.StageLaws.{is_open, comment_stays}
use Rattle.format.proofs.OrderLaws.{Inner, follows_open, Chained, head, after_origin}

hop : (s x : Scan) (t : Record) (vs : List Value) (st : Stage) → next_stage s.part s.stage t ≡ Some st → taken 0 s t vs ≡ Ok x → (fields_of t ≡ [] → vs ≡ []) → Follows s (with_stage st x) (entry t vs)
hop s x t vs st p q b = record { stage = st; next = x; place = p; content = q; is = refl; bare = λ _ e. b e }

row_hop : (k : Source) (st to : Stage) (h : Header) (p : Span) (m : Option Summary) (vs : List Value) → next_stage k.part st rec.Position ≡ Some to → row_refusal 0 (state k st h p m) (row_of vs) ≡ Ok tt
    → Follows (state k st h p m) (state k to h p (Some (summary_with m (row_of vs)))) (entry rec.Position vs)
row_hop k st to h p m vs e q = hop (state k st h p m) (with_row (state k st h p m) (row_of vs)) rec.Position vs to e (ap (λ a. on_ok a (with_row (state k st h p m) (row_of vs))) q) (λ b. cc)

still : (k : Source) (st to : Stage) (h : Header) (p : Span) (m : Option Summary) (vs : List Value) → next_stage k.part st rec.Velocity ≡ Some to → Follows (state k st h p m) (state k to h p m) (entry rec.Velocity vs)
still k st to h p m vs e = hop (state k st h p m) (state k st h p m) rec.Velocity vs to e refl (λ b. cc)

module _ (k : Source) (h : Header) (p : Span) where
  plain_on : (ps : List (List Value)) (m : Summary) → Chain k m (position_rows ps) → Scanned (positions ps) (state k at.Position h p (Some m)) (state k at.Position h p (Some (extended_by m (position_rows ps))))
  plain_on [] m c = refl
  plain_on (q ∷ ps) m c =
      (state k at.Position h p (Some (extended m (row_of q))), row_hop k at.Position at.Position h p (Some m) q refl (may_complete k at.Position h p m (row_of q) c.0), plain_on ps (extended m (row_of q)) c.1)

  moving_on : (ps : List Both) (m : Summary) → Chain k m (pair_rows ps) → Scanned (pairs ps) (state k at.Velocity h p (Some m)) (state k at.Velocity h p (Some (extended_by m (pair_rows ps))))
  moving_on [] m c = refl
  moving_on (q ∷ ps) m c =
      let r = row_of q.position in
      let y = c.0 in
      let may : May k m r = record { after = y.after; flag = y.flag; room = y.room } in (
        state k at.AwaitsVelocity h p (Some (extended m r)),
        row_hop k at.Velocity at.AwaitsVelocity h p (Some m) q.position refl (may_complete k at.Velocity h p m r may),
        (state k at.Velocity h p (Some (extended m r)), still k at.AwaitsVelocity at.Velocity h p (Some (extended m r)) q.velocity refl, moving_on ps (extended m r) c.1),
      )

  -- the rows are read, and are whole at the end
  pub record Read (es : List Entry) (rows : List Row) : Type 0 where
    pub stage : Stage
    pub done : rows_done stage ≡ true
    pub scanned : Scanned es (state k at.H9 h p None) (state k stage h p (summary_if rows))
    pub inside : AllByRecursion Inner es

  plain_inside : (ps : List (List Value)) → AllByRecursion Inner (positions ps)
  plain_inside [] = tt
  plain_inside (q ∷ ps) = (refl, plain_inside ps)

  moving_inside : (ps : List Both) → AllByRecursion Inner (pairs ps)
  moving_inside [] = tt
  moving_inside (q ∷ ps) = (refl, (refl, moving_inside ps))

  first_hop : (vs : List Value) → RoomAfter k 0 → Follows (state k at.H9 h p None) (state k at.FirstPosition h p (Some (cells.started (row_of vs)))) (entry rec.Position vs)
  first_hop vs y = row_hop k at.H9 at.FirstPosition h p None vs refl (first_complete k at.H9 h p (row_of vs) y)

  read_plain : (ps : List (List Value)) → Chained k (position_rows ps) → Read (positions ps) (position_rows ps)
  read_plain [] c = absurd c
  read_plain (q ∷ []) c =
      record { stage = at.FirstPosition; done = refl; scanned = (state k at.FirstPosition h p (Some (cells.started (row_of q))), first_hop q c.0, refl); inside = plain_inside (q ∷ []) }
  read_plain (q ∷ (x ∷ ps)) c =
      let m = cells.started (row_of q) in
      record {
        stage = at.Position;
        done = refl;
        scanned = (
          state k at.FirstPosition h p (Some m),
          first_hop q c.0,
          (state k at.Position h p (Some (extended m (row_of x))), row_hop k at.FirstPosition at.Position h p (Some m) x refl (may_complete k at.FirstPosition h p m (row_of x) c.1.0), plain_on ps (extended m (row_of x)) c.1.1),
        );
        inside = plain_inside (q ∷ (x ∷ ps));
      }

  read_moving : (ps : List Both) → Chained k (pair_rows ps) → Read (pairs ps) (pair_rows ps)
  read_moving [] c = absurd c
  read_moving (q ∷ ps) c =
      let m = cells.started (row_of q.position) in
      record {
        stage = at.Velocity;
        done = refl;
        scanned = (
          state k at.FirstPosition h p (Some m),
          first_hop q.position c.0,
          (state k at.Velocity h p (Some m), still k at.FirstPosition at.Velocity h p (Some m) q.velocity refl, moving_on ps m c.1),
        );
        inside = moving_inside (q ∷ ps);
      }

  read_rows : (es : List Entry) (rows : List Row) → AreRows es rows → Chained k rows → Read es rows
  read_rows es rows (plain ps e f) c = subst (λ l. Read l rows) (sym e) (subst (λ r. Read (positions ps) r) (sym f) (read_plain ps (subst (Chained k) f c)))
  read_rows es rows (moving ps e f) c = subst (λ l. Read l rows) (sym e) (subst (λ r. Read (pairs ps) r) (sym f) (read_moving ps (subst (Chained k) f c)))

abbrev headed : List Value → List Value → Option (List Value) → Option (List Value) → Header
headed h1 h2 h3 h5 = head (origin_of h1) (satellite_of h2) (accuracy_if h3) (offset_if h5)

-- the header records lead to the rows
header_on : (k : Source) (h1 h2 : List Value) (h3 h5 : Option (List Value)) (body : List Entry) (u : Scan) → Scanned body (state k at.H9 (headed h1 h2 h3 h5) (span_of h2) None) u
    → Scanned (entry rec.H2 h2 ∷ maybe rec.H3 h3 (maybe rec.H5 h5 (entry rec.H9 [] ∷ body))) (after_origin k (origin_of h1)) u
header_on k h1 h2 None None body u c = (_, hop _ _ rec.H2 h2 at.H2 refl refl (λ b. cc), (_, hop _ _ rec.H9 [] at.H9 refl refl (λ b. refl), c))
header_on k h1 h2 None (Some f) body u c = (_, hop _ _ rec.H2 h2 at.H2 refl refl (λ b. cc), (_, hop _ _ rec.H5 f at.H5 refl refl (λ b. cc), (_, hop _ _ rec.H9 [] at.H9 refl refl (λ b. refl), c)))
header_on k h1 h2 (Some a) None body u c = (_, hop _ _ rec.H2 h2 at.H2 refl refl (λ b. cc), (_, hop _ _ rec.H3 a at.H3 refl refl (λ b. cc), (_, hop _ _ rec.H9 [] at.H9 refl refl (λ b. refl), c)))
header_on k h1 h2 (Some a) (Some f) body u c =
    (_, hop _ _ rec.H2 h2 at.H2 refl refl (λ b. cc), (_, hop _ _ rec.H3 a at.H3 refl refl (λ b. cc), (_, hop _ _ rec.H5 f at.H5 refl refl (λ b. cc), (_, hop _ _ rec.H9 [] at.H9 refl refl (λ b. refl), c))))

header_inside : (h2 : List Value) (h3 h5 : Option (List Value)) (body : List Entry) → AllByRecursion Inner body → AllByRecursion Inner (entry rec.H2 h2 ∷ maybe rec.H3 h3 (maybe rec.H5 h5 (entry rec.H9 [] ∷ body)))
header_inside h2 None None body i = (refl, (refl, i))
header_inside h2 None (Some f) body i = (refl, (refl, (refl, i)))
header_inside h2 (Some a) None body i = (refl, (refl, (refl, i)))
header_inside h2 (Some a) (Some f) body i = (refl, (refl, (refl, (refl, i))))

-- comments may stand anywhere between H1 and the trailer, and in a block anywhere
with_comments : (es : List Entry) (s u : Scan) → is_open s.stage ≡ true → AllByRecursion Inner (without_comments es) → Scanned (without_comments es) s u → Scanned es s u
with_comments [] s u o i c = c
with_comments (e ∷ es) s u o i c =
    by_bool (is_comment e.type)
    (λ h. let w = is_comment_lem e.type h in
    let j : AllByRecursion Inner (without_comments es) = rw h at i in
    let d : Scanned (without_comments es) s u = rw h at c in (
      s,
      record { stage = s.stage; next = s; place = ap (next_stage s.part s.stage) w ∙ comment_stays s.stage o; content = ap (λ t. taken 0 s t e.values) w; is = refl; bare = λ n b. (let z = sym h ∙ n in cc) },
      with_comments es s u o j d,
    ))
    (λ h. let j : AllByRecursion Inner (e ∷ without_comments es) = rw h at i in
    let d : Scanned (e ∷ without_comments es) s u = rw h at c in
    (d.0, d.1, with_comments es d.0 u (follows_open s d.0 e j.0 d.1) j.1 d.2))

scan_last : (es : List Entry) (s v u : Scan) (e : Entry) → Scanned es s v → Follows v u e → Scanned (es ++ (e ∷ [])) s u
scan_last [] s v u e c f = (u, subst (λ z. Follows z u e) (sym c) f, refl)
scan_last (x ∷ es) s v u e c f = (c.0, c.1, scan_last es c.0 v u e c.2 f)

pub order_complete : (k : ℕ) (h1 h2 : List Value) (h3 h5 : Option (List Value)) (middle body : List Entry) (rows : List Row)
    → without_comments middle ≡ entry rec.H2 h2 ∷ maybe rec.H3 h3 (maybe rec.H5 h5 (entry rec.H9 [] ∷ body)) → AreRows body rows → Chained (file k) rows
    → Scanned (entry rec.H1 h1 ∷ (middle ++ (entry rec.Trailer [] ∷ []))) (started part.File (Some k)) (state (file k) at.End (headed h1 h2 h3 h5) (span_of h2) (summary_if rows))
order_complete k h1 h2 h3 h5 middle body rows e made c =
    let h = headed h1 h2 h3 h5 in
    let from = after_origin (file k) (origin_of h1) in
    let r = read_rows (file k) h (span_of h2) body rows made c in
    let v = state (file k) r.stage h (span_of h2) (summary_if rows) in
    let i = subst (AllByRecursion Inner) (sym e) (header_inside h2 h3 h5 body r.inside) in
    let d = subst (λ l. Scanned l from v) (sym e) (header_on (file k) h1 h2 h3 h5 body v r.scanned) in
    let done = r.done in
    let place : next_stage part.File r.stage rec.Trailer ≡ Some at.End = rw done in
    (from, hop (started part.File (Some k)) _ rec.H1 h1 at.H1 refl refl (λ b. cc), scan_last middle from v _ (entry rec.Trailer []) (with_comments middle from v refl i d) (hop v v rec.Trailer [] at.End place refl (λ b. refl)))

-- what a block is read to
pub record BlockRead (es : List Entry) : Type 0 where
  pub scan : Scan
  pub scanned : Scanned es (started part.Block None) scan
  pub end : (n : ℕ) → end_refusal scan n ≡ Ok tt

pub block_complete : (es : List Entry) (rows : List Row) → AreRows (without_comments es) rows → Chained block rows → BlockRead es
block_complete es rows made c =
    let s = started part.Block None in
    let r = read_rows block s.header s.span (without_comments es) rows made c in
    let u = state block r.stage s.header s.span (summary_if rows) in
    let done = r.done in
    record { scan = u; scanned = with_comments es s u refl r.inside r.scanned; end = λ n. rw done }
