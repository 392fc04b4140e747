use Rattle.std.proofs.Common.{◌≡◌, ◌+◌, ◌-◌, ◌≤◌, length, take, ◌∙◌, subst, arith}
use Rattle.reading.specs.Stores.{rows_in}
use Rattle.journal.specs.Journals.{entries_of, Fitting}
use Rattle.sheet.specs.Sound.{pasts_of}
use Rattle.sheet.proofs.ChangeLaws.{numbers, keeps, pasts_after, counted_after, rows_after, sound_after}
use Rattle.sheet.proofs.sheet.Sheet.make.Goals as goal

pub overflow_sub-self : goal.overflow_sub-self
overflow_sub-self c =
    let s = c.args.self.now in
    let es = entries_of s.journal in
    let block = rows_in c.args.block.now in
    let ready = c.requires in
    let k = c.fitting-stay.result.entries in
    let n = c.fitting-stay.result.rows in
    let taken = c.args.place.end - c.args.place.first in
    let g : Fitting (length s.taken.cells.now - taken) es k n = subst (λ m. Fitting (m - taken) es k n) c.len.ensures (rw c.taken-taken.ensures at c.fitting-stay.ensures) in
    (numbers s.rows.cells.now s.taken.cells.now s.len s.held es s.inside s.kept s.counted c.args.edit c.args.place block ready k n g).stays

pub invariant_of-self : goal.invariant_of-self
invariant_of-self c =
    let s = c.args.self.now in
    let es = entries_of s.journal in
    let block = rows_in c.args.block.now in
    let ready = c.requires in
    let k = c.fitting-stay.result.entries in
    let n = c.fitting-stay.result.rows in
    let taken = c.args.place.end - c.args.place.first in
    let g : Fitting (length s.taken.cells.now - taken) es k n = subst (λ m. Fitting (m - taken) es k n) c.len.ensures (rw c.taken-taken.ensures at c.fitting-stay.ensures) in
    let m = numbers s.rows.cells.now s.taken.cells.now s.len s.held es s.inside s.kept s.counted c.args.edit c.args.place block ready k n g in
    let l : length c.load_rows_at.new.memory.cells.now ≡ length s.rows.cells.now = c.load_rows_at.ensures.place.len ∙ c.move_block-2.ensures.place.len in
    let h : length c.copy_from.new.self.cells.now ≡ length s.taken.cells.now = c.copy_from.ensures.place.len ∙ c.move_block.ensures.place.len in
    let order = m.order in
    let within = m.within in
    let size = m.size in
    let room = m.room in
    let place = c.args.place in
    let u = c.load_rows_at.new.memory.cells.now in
    let len = s.len - (place.end - place.first) + place.put in
    let ps = pasts_of (entries_of c.add.new.self) (take (n + (place.end - place.first)) c.copy_from.new.self.cells.now) in
    let inside : len ≤ length u = omega arith in
    let sound = sound_after s.rows.cells.now s.taken.cells.now s.len s.held es s.inside s.kept s.counted c.args.edit c.args.place block ready k n g c.move_block.new.self.cells.now c.copy_from.new.self.cells.now c.move_block.ensures.value (rw c.taken-taken.ensures at c.copy_from.ensures.value) (entries_of c.add.new.self) (rw c.taken-taken.ensures at c.add.ensures) c.move_block-2.new.self.cells.now u c.move_block-2.ensures.value c.load_rows_at.ensures.value l s.sound in
    rw c.taken-taken.ensures record {
      inside = inside;
      kept = omega arith;
      counted = counted_after s.rows.cells.now s.taken.cells.now s.len s.held es s.inside s.kept s.counted c.args.edit c.args.place block ready k n g c.move_block.new.self.cells.now c.copy_from.new.self.cells.now c.move_block.ensures.value (rw c.taken-taken.ensures at c.copy_from.ensures.value) (entries_of c.add.new.self) (rw c.taken-taken.ensures at c.add.ensures);
      sound = sound;
    }

pub returns : goal.returns
returns c =
    let s = c.args.self.now in
    let es = entries_of s.journal in
    let block = rows_in c.args.block.now in
    let ready = c.requires in
    let k = c.fitting-stay.result.entries in
    let n = c.fitting-stay.result.rows in
    let taken = c.args.place.end - c.args.place.first in
    let g : Fitting (length s.taken.cells.now - taken) es k n = subst (λ m. Fitting (m - taken) es k n) c.len.ensures (rw c.taken-taken.ensures at c.fitting-stay.ensures) in
    let l : length c.load_rows_at.new.memory.cells.now ≡ length s.rows.cells.now = c.load_rows_at.ensures.place.len ∙ c.move_block-2.ensures.place.len in
    let h : length c.copy_from.new.self.cells.now ≡ length s.taken.cells.now = c.copy_from.ensures.place.len ∙ c.move_block.ensures.place.len in
    let r = rows_after s.rows.cells.now s.taken.cells.now s.len s.held es s.inside s.kept s.counted c.args.edit c.args.place block ready k n g c.move_block.new.self.cells.now c.copy_from.new.self.cells.now c.move_block.ensures.value (rw c.taken-taken.ensures at c.copy_from.ensures.value) (entries_of c.add.new.self) (rw c.taken-taken.ensures at c.add.ensures) c.move_block-2.new.self.cells.now c.load_rows_at.new.memory.cells.now c.move_block-2.ensures.value c.load_rows_at.ensures.value in
    rw c.taken-taken.ensures record {
      kept = k;
      keeps = keeps s.rows.cells.now s.taken.cells.now s.len s.held es s.inside s.kept s.counted c.args.edit c.args.place block ready k n g;
      state = λ q. record { room = l q; hold = h q; header = s.header; rows = r q; changes = c.saturating_add-self.ensures q };
      journal = pasts_after s.rows.cells.now s.taken.cells.now s.len s.held es s.inside s.kept s.counted c.args.edit c.args.place block ready k n g c.move_block.new.self.cells.now c.copy_from.new.self.cells.now c.move_block.ensures.value (rw c.taken-taken.ensures at c.copy_from.ensures.value) (entries_of c.add.new.self) (rw c.taken-taken.ensures at c.add.ensures);
    }
