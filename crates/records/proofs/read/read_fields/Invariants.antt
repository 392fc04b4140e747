use Rattle.std.proofs.Common.{◌≡◌, ◌+◌, ◌≤◌, [], length}
use Rattle.lines.specs.Words.{words}
use Rattle.records.specs.Reads.{read_on, Fine}
use Rattle.records.specs.Tables.{fields_of}
use Rattle.records.specs.Values.{values_of}
use Rattle.records.proofs.read.read_fields.Given as goal

abbrev pub invariant-loop-field : goal.invariant-loop-field
invariant-loop-field l = record {
  reads : read_on l.line l.field-iterator.a.rest.now (words l.field-iterator.b.rest.now) (values_of l.values) ≡ read_on l.line (fields_of l.fn.kind) (words l.words) [];
  fine : Fine l.field-iterator.a.rest.now;
  count : length (values_of l.values) + length l.field-iterator.a.rest.now ≤ 22;
}
