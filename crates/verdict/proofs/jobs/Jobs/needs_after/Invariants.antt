-- Entry i is what job i needs.
-- Assumes nothing.
use Rattle.std.proofs.Common.{◌≡◌, ◌<◌, ℕ, length, []}
use Rattle.basics.specs.Limits.{first_edition}
use Rattle.basics.specs.Units.{units_of}
use Rattle.frame.specs.TwoLevels.{needs_hi}
use Rattle.verdict.specs.Inner.{square}
use Rattle.verdict.proofs.jobs.Jobs.needs_after.Given as goal

abbrev pub invariant-loop-i : goal.invariant-loop-i
invariant-loop-i l = (length l.need ≡ first_edition.jobs) × ((j : ℕ) → j < l.i → units_of l.need j ≡ needs_hi (square l.self.list.now l.self.count []) l.had l.k j)
