-- Entry i is what job i has had.
-- Assumes nothing.
use Rattle.std.proofs.Common.{◌≡◌, ◌<◌, ℕ, length, min}
use Rattle.basics.specs.Limits.{first_edition}
use Rattle.basics.specs.Units.{units_of}
use Rattle.joblist.specs.Fields.{ordinary}
use Rattle.verdict.specs.Count.{entries_in}
use Rattle.verdict.proofs.jobs.Jobs.units_before.Given as goal

abbrev pub invariant-loop-i : goal.invariant-loop-i
invariant-loop-i l = (length l.had ≡ first_edition.jobs) × ((k : ℕ) → k < l.i → units_of l.had k ≡ min (ordinary l.self.list.now k) (entries_in l.lo.table.now k l.lo.slot))
