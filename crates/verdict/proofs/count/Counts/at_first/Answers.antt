-- No job has an entry before slot 0.
-- Assumes nothing.
use Rattle.basics.specs.Limits.{first_edition}
use Rattle.verdict.proofs.Running.{running_first}
use Rattle.verdict.proofs.count.Counts.at_first.Goals as goal

pub invariant_of-result : goal.invariant_of-result
invariant_of-result c = record { running = running_first first_edition.jobs c.args.table.now }
