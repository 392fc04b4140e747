use Rattle.std.proofs.Common.{◌≡◌, ◌≤◌, min, true, length, take, Some, Ok, sym, refl, ap, ◌∙◌, arith}
use Rattle.reading.specs.declared.stage.Part.TheVariants.{File}
use Rattle.reading.specs.Texts.{scan_of}
use Rattle.reading.specs.Stores.{rows_in}
use Rattle.reading.proofs.TrackLaws.{tracks_text}
use Rattle.edits.specs.Checks.{in_order}
use Rattle.edits.proofs.OrderLaws.{text_in_order}
use Rattle.journal.specs.Journals.{entries_of, taken_by}
use Rattle.sheet.specs.Openings.{contents_by, opened_from}
use Rattle.sheet.specs.States.{accepted}
use Rattle.sheet.specs.Calls.{after_opening}
use Rattle.sheet.specs.Sheets.{view}
use Rattle.sheet.specs.Sound.{pasts_of}
use Rattle.sheet.proofs.OpenLaws.{sound_open}
use Rattle.sheet.proofs.sheet.Sheet.open.Goals as goal
use Rattle.sheet.proofs.sheet.Sheet.open.Goals.{In_ok-scan}

-- the rows of the file are in order, and fit the memory and a sheet
record Fit (c : In_ok-scan) : Type 0 where
  room : length (rows_in c.args.file.now) ≤ min (length c.args.self.now.rows.cells.now) 8192
  order : in_order (rows_in c.args.file.now) ≡ true
  told : opened_from (length c.args.self.now.rows.cells.now) c.args.file.now ≡ Ok (record { header = c.in_ok-scan.scan.header; rows = rows_in c.args.file.now })

fit : (c : In_ok-scan) → Fit c
fit c =
    let file = c.args.file.now in
    let scan = c.in_ok-scan.scan in
    let room = c.min-room.result in
    let n : room ≡ min (length c.args.self.now.rows.cells.now) 8192 = c.min-room.ensures ∙ ap (λ k. min k 8192) c.len.ensures in
    let told = sym c.in_ok-scan.ensures in
    let t = tracks_text File (Some room) file scan told in
    let f = t.fits room refl in
    record {
      room = omega arith;
      order = text_in_order File (Some room) file scan told;
      told = ap (λ k. contents_by (scan_of File (Some k) file) (rows_in file)) (sym n) ∙ ap (λ r. contents_by r (rows_in file)) told;
    }

pub load_rows-self-requires : goal.load_rows-self-requires
load_rows-self-requires c = let room = (fit (goal.at.load_rows-self-requires c).In_ok-scan).room in omega arith

pub invariant_of-self : goal.invariant_of-self
invariant_of-self c =
    let f = fit (goal.at.invariant_of-self c).In_ok-scan in
    let rows = rows_in c.args.file.now in
    let room = f.room in
    let put = c.load_rows-self.ensures in
    let count = put.count in
    let len = put.place.len in
    record {
      inside = omega arith;
      kept = omega arith;
      counted = sym (ap taken_by c.new-self.ensures);
      sound = sound_open (length c.args.self.now.rows.cells.now) c.load_rows-self.result rows c.load_rows-self.new.memory.cells.now (entries_of c.new-self.result) _ put.rows put.place.len room f.order c.new-self.ensures;
    }

pub returns : goal.returns
returns c =
    let f = fit (goal.at.returns c).In_ok-scan in
    let s = c.args.self.now in
    let put = c.load_rows-self.ensures in
    let j = ap (λ z. pasts_of z (take 0 s.taken.cells.now)) c.new-self.ensures in
    record {
      holds = (
        record { header = c.in_ok-scan.scan.header; rows = rows_in c.args.file.now },
        f.told,
        record { header = refl; rows = put.rows; journal = c.new-self.ensures; changes = refl; room = put.place.len; taken = refl },
      );
      opened = record {
        answer = sym (ap accepted f.told);
        after =
            (λ i. record {
              state = record { room = put.place.len i; hold = length s.taken.cells.now; header = Some c.in_ok-scan.scan.header; rows = put.rows i; changes = 0 };
              journal = j i;
            })
            ∙ sym (ap (after_opening (view s)) f.told);
      };
      refused = tt;
    }
