use Rattle.std.specs.Prelude.{Bool, true, false}
use Rattle.reading.specs.declared.stage.Stage.{Stage}
use Rattle.reading.specs.declared.stage.Stage.TheVariants as at

-- the rows read up to this stage have velocities
abbrev pub moving_at : Stage → Bool
moving_at at.Start = false
moving_at at.H1 = false
moving_at at.H2 = false
moving_at at.H3 = false
moving_at at.H5 = false
moving_at at.H9 = false
moving_at at.FirstPosition = false
moving_at at.Position = false
moving_at at.AwaitsVelocity = false
moving_at at.Velocity = true
moving_at at.End = false
