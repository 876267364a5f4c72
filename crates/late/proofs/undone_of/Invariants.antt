-- At j the jobs below j are marked as it says.
-- Assumes nothing.
use Rattle.std.proofs.Common.{◌≡◌, ℕ, ◌<◌, ltb}
use Rattle.basics.specs.Units.{units_of}
use Rattle.joblist.specs.Fields.{jobs}
use Rattle.late.proofs.Marks.{Filled}
use Rattle.late.proofs.undone_of.Given as goal

abbrev pub invariant-loop-j : goal.invariant-loop-j
invariant-loop-j g l =
    (most : ℕ → ℕ) → ((j k : ℕ) → j < jobs l.list.bytes.now → goal.F-post g l.takes j k → k ≡ most j) → Filled (λ i. ltb (units_of l.had i) (most i)) l.r l.j
