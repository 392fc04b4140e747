use Rattle.std.specs.Prelude.{Bool, true, false, cond, Some, None, Option}
use Rattle.records.specs.declared.record.Record.{Record}
use Rattle.records.specs.declared.record.Record.TheVariants as rec
use Rattle.reading.specs.declared.stage.Stage.{Stage}
use Rattle.reading.specs.declared.stage.Stage.TheVariants as at
use Rattle.reading.specs.declared.stage.Part.{Part}
use Rattle.reading.specs.declared.stage.Part.TheVariants as part

-- H1 comes first
abbrev pub after_h1 : Stage → Option Stage
after_h1 at.Start = Some at.H1
after_h1 at.H1 = None
after_h1 at.H2 = None
after_h1 at.H3 = None
after_h1 at.H5 = None
after_h1 at.H9 = None
after_h1 at.FirstPosition = None
after_h1 at.Position = None
after_h1 at.AwaitsVelocity = None
after_h1 at.Velocity = None
after_h1 at.End = None

-- then H2
abbrev pub after_h2 : Stage → Option Stage
after_h2 at.Start = None
after_h2 at.H1 = Some at.H2
after_h2 at.H2 = None
after_h2 at.H3 = None
after_h2 at.H5 = None
after_h2 at.H9 = None
after_h2 at.FirstPosition = None
after_h2 at.Position = None
after_h2 at.AwaitsVelocity = None
after_h2 at.Velocity = None
after_h2 at.End = None

-- then H3, which may be absent
abbrev pub after_h3 : Stage → Option Stage
after_h3 at.Start = None
after_h3 at.H1 = None
after_h3 at.H2 = Some at.H3
after_h3 at.H3 = None
after_h3 at.H5 = None
after_h3 at.H9 = None
after_h3 at.FirstPosition = None
after_h3 at.Position = None
after_h3 at.AwaitsVelocity = None
after_h3 at.Velocity = None
after_h3 at.End = None

-- then H5, which may be absent
abbrev pub after_h5 : Stage → Option Stage
after_h5 at.Start = None
after_h5 at.H1 = None
after_h5 at.H2 = Some at.H5
after_h5 at.H3 = Some at.H5
after_h5 at.H5 = None
after_h5 at.H9 = None
after_h5 at.FirstPosition = None
after_h5 at.Position = None
after_h5 at.AwaitsVelocity = None
after_h5 at.Velocity = None
after_h5 at.End = None

-- then H9
abbrev pub after_h9 : Stage → Option Stage
after_h9 at.Start = None
after_h9 at.H1 = None
after_h9 at.H2 = Some at.H9
after_h9 at.H3 = Some at.H9
after_h9 at.H5 = Some at.H9
after_h9 at.H9 = None
after_h9 at.FirstPosition = None
after_h9 at.Position = None
after_h9 at.AwaitsVelocity = None
after_h9 at.Velocity = None
after_h9 at.End = None

-- then the rows: either every position is followed by its velocity, or none is
abbrev pub after_position : Stage → Option Stage
after_position at.Start = None
after_position at.H1 = None
after_position at.H2 = None
after_position at.H3 = None
after_position at.H5 = None
after_position at.H9 = Some at.FirstPosition
after_position at.FirstPosition = Some at.Position
after_position at.Position = Some at.Position
after_position at.AwaitsVelocity = None
after_position at.Velocity = Some at.AwaitsVelocity
after_position at.End = None

-- a velocity follows the first position, or one that awaits it
abbrev pub after_velocity : Stage → Option Stage
after_velocity at.Start = None
after_velocity at.H1 = None
after_velocity at.H2 = None
after_velocity at.H3 = None
after_velocity at.H5 = None
after_velocity at.H9 = None
after_velocity at.FirstPosition = Some at.Velocity
after_velocity at.Position = None
after_velocity at.AwaitsVelocity = Some at.Velocity
after_velocity at.Velocity = None
after_velocity at.End = None

-- comments stand after H1 and before the trailer
abbrev pub after_comment : Stage → Option Stage
after_comment at.Start = None
after_comment at.H1 = Some at.H1
after_comment at.H2 = Some at.H2
after_comment at.H3 = Some at.H3
after_comment at.H5 = Some at.H5
after_comment at.H9 = Some at.H9
after_comment at.FirstPosition = Some at.FirstPosition
after_comment at.Position = Some at.Position
after_comment at.AwaitsVelocity = Some at.AwaitsVelocity
after_comment at.Velocity = Some at.Velocity
after_comment at.End = None

-- there is a row, and every row is whole
abbrev pub rows_done : Stage → Bool
rows_done at.Start = false
rows_done at.H1 = false
rows_done at.H2 = false
rows_done at.H3 = false
rows_done at.H5 = false
rows_done at.H9 = false
rows_done at.FirstPosition = true
rows_done at.Position = true
rows_done at.AwaitsVelocity = false
rows_done at.Velocity = true
rows_done at.End = false

-- the trailer ends a file; a block has none
abbrev pub after_trailer : Part → Stage → Option Stage
after_trailer part.File s = cond (rows_done s) (Some at.End) None
after_trailer part.Block s = None

-- the stage after a record, if it stands in its place
abbrev pub next_stage : Part → Stage → Record → Option Stage
next_stage p s rec.H1 = after_h1 s
next_stage p s rec.H2 = after_h2 s
next_stage p s rec.H3 = after_h3 s
next_stage p s rec.H5 = after_h5 s
next_stage p s rec.H9 = after_h9 s
next_stage p s rec.Position = after_position s
next_stage p s rec.Velocity = after_velocity s
next_stage p s rec.Comment = after_comment s
next_stage p s rec.Trailer = after_trailer p s
