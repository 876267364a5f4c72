-- One job after the other.
-- Assumes nothing.
use Rattle.std.proofs.Common.{◌≡◌}
use Rattle.basics.specs.Limits.{first_edition}
use Rattle.witness.specs.Needs.{needs_to}
use Rattle.witness.proofs.needs.Execution.needs.Given as goal

abbrev pub invariant-loop-j : goal.invariant-loop-j
invariant-loop-j l = l.needs ≡ needs_to first_edition.jobs l.self.list.now l.self.lo.now l.self.switch l.j
