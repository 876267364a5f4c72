-- Entry i is the ordinary budget of job i.
-- Assumes nothing.
use Rattle.std.proofs.Common.{◌≡◌, ◌<◌, ℕ, length}
use Rattle.basics.specs.Limits.{first_edition}
use Rattle.basics.specs.Units.{units_of}
use Rattle.joblist.specs.Fields.{ordinary}
use Rattle.verdict.proofs.jobs.Jobs.needs_at_first.Given as goal

abbrev pub invariant-loop-i : goal.invariant-loop-i
invariant-loop-i l = (length l.need ≡ first_edition.jobs) × ((k : ℕ) → k < l.i → units_of l.need k ≡ ordinary l.self.list.now k)
