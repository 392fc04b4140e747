use Rattle.std.proofs.Common.{◌≡◌, ◌+◌, ◌-◌, ◌≤◌, length, take, refl, ◌∙◌, arith}
use Rattle.journal.specs.Journals.{entries_of}
use Rattle.sheet.specs.Sound.{pasts_of}
use Rattle.sheet.specs.Sheets.{view, state_of}
use Rattle.sheet.proofs.UndoLaws.{newest, newest_is, numbers, rows_after, sound_after, pasts_were}
use Rattle.sheet.proofs.AnswerLaws.{undo_accepted, open_by}
use Rattle.sheet.proofs.sheet.Sheet.undo.Goals as goal

pub move_block-requires : goal.move_block-requires
move_block-requires c =
    let s = c.args.self.now in
    let e = c.in_ok-newest.newest in
    let es = entries_of c.take_newest.new.self in
    let m = numbers s.rows.cells.now s.taken.cells.now s.len s.held (entries_of s.journal) es e s.inside s.kept s.counted s.sound (newest_is _ _ c.take_newest.result c.ok_or.result _ c.in_ok-newest.newest c.take_newest.ensures c.ok_or.ensures.value c.in_ok-newest.was) in
    let inside = s.inside in
    let rows = m.in_rows in
    record { source = omega arith; target = m.fits }

pub copy_from-requires : goal.copy_from-requires
copy_from-requires c =
    let s = c.args.self.now in
    let e = c.in_ok-newest.newest in
    let es = entries_of c.take_newest.new.self in
    let m = numbers s.rows.cells.now s.taken.cells.now s.len s.held (entries_of s.journal) es e s.inside s.kept s.counted s.sound (newest_is _ _ c.take_newest.result c.ok_or.result _ c.in_ok-newest.newest c.take_newest.ensures c.ok_or.ensures.value c.in_ok-newest.was) in
    let kept = s.kept in
    let sum = m.held_sum in
    let fits = m.fits in
    let len = c.move_block.ensures.place.len in
    record { source = omega arith; target = omega arith }

pub invariant_of-self-2 : goal.invariant_of-self-2
invariant_of-self-2 c =
    let s = c.args.self.now in
    let e = c.in_ok-newest.newest in
    let es = entries_of c.take_newest.new.self in
    let m = numbers s.rows.cells.now s.taken.cells.now s.len s.held (entries_of s.journal) es e s.inside s.kept s.counted s.sound (newest_is _ _ c.take_newest.result c.ok_or.result _ c.in_ok-newest.newest c.take_newest.ensures c.ok_or.ensures.value c.in_ok-newest.was) in
    let l : length c.copy_from.new.self.cells.now ≡ length s.rows.cells.now = c.copy_from.ensures.place.len ∙ c.move_block.ensures.place.len in
    let kept = s.kept in
    let sum = m.held_sum in
    let rows = m.in_rows in
    let fits = m.fits in
    let u = c.copy_from.new.self.cells.now in
    let len = s.len - e.put + e.taken in
    let ps = pasts_of es (take (s.held - e.taken) s.taken.cells.now) in
    let inside : len ≤ length u = omega arith in
    let sound = sound_after s.rows.cells.now s.taken.cells.now s.len s.held (entries_of s.journal) es e s.inside s.kept s.counted s.sound (newest_is _ _ c.take_newest.result c.ok_or.result _ c.in_ok-newest.newest c.take_newest.ensures c.ok_or.ensures.value c.in_ok-newest.was) c.move_block.new.self.cells.now u c.move_block.ensures.value c.copy_from.ensures.value l in
    record {
      inside = inside;
      kept = omega arith;
      counted = omega arith;
      sound = sound;
    }

pub returns : goal.returns
returns c =
    let s = c.args.self.now in
    let e = c.in_ok-newest.newest in
    let es = entries_of c.take_newest.new.self in
    let older = pasts_of es (take (s.held - e.taken) s.taken.cells.now) in
    let n = newest s.taken.cells.now s.held es e in
    let l : length c.copy_from.new.self.cells.now ≡ length s.rows.cells.now = c.copy_from.ensures.place.len ∙ c.move_block.ensures.place.len in
    let r = rows_after s.rows.cells.now s.taken.cells.now s.len s.held (entries_of s.journal) es e s.inside s.kept s.counted s.sound (newest_is _ _ c.take_newest.result c.ok_or.result _ c.in_ok-newest.newest c.take_newest.ensures c.ok_or.ensures.value c.in_ok-newest.was) c.move_block.new.self.cells.now c.copy_from.new.self.cells.now c.move_block.ensures.value c.copy_from.ensures.value in
    let w = pasts_were s.rows.cells.now s.taken.cells.now s.len s.held (entries_of s.journal) es e s.inside s.kept s.counted s.sound (newest_is _ _ c.take_newest.result c.ok_or.result _ c.in_ok-newest.newest c.take_newest.ensures c.ok_or.ensures.value c.in_ok-newest.was) c.move_block.new.self.cells.now c.copy_from.new.self.cells.now c.move_block.ensures.value c.copy_from.ensures.value in
    record {
      undone = record {
        answer = undo_accepted (state_of s) (view s).journal n older (open_by s.header c.in_ok-header.field-0 c.in_ok-header.ensures) w;
        after = record {
          newest = n;
          older = older;
          was = w;
          state = λ i. record { room = l i; hold = length s.taken.cells.now; header = s.header; rows = r i; changes = c.saturating_add-self.ensures i };
          journal = refl;
        };
      };
      refused = tt;
    }
