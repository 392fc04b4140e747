use Rattle.std.proofs.Common.{sym, ◌∙◌}
use Rattle.tables.specs.Windows.{flag_of}
use Rattle.tables.proofs.Places.{place_in, place_map}
use Rattle.tables.proofs.windows.flag_at.Goals as goal

pub unwrap-requires : goal.unwrap-requires
unwrap-requires g c = place_in (g.T.PredictionTable.rows c.args.t.now) c.args.i _ c.row.ensures c.requires

pub returns : goal.returns
returns g c = place_map flag_of (g.T.PredictionTable.rows c.args.t.now) c.args.i _ (sym c.unwrap.ensures ∙ c.row.ensures)
