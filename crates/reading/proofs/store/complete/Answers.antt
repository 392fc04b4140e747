use Rattle.std.proofs.Common.{rules, ◌-◌, length}
use Rattle.reading.proofs.StoreLaws.{completed_last}
use Rattle.reading.proofs.store.complete.Goals as goal

pub returns-in-Some : goal.returns-in-Some
returns-in-Some c = completed_last c.args.rows.now (length c.args.rows.now - 1) c.in-Some.last.now c.args.velocity (search rules) (search rules)
