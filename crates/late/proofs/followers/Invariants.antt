-- After e edges each job is marked to which one of them comes from a job that passes.
-- Assumes nothing.
use Rattle.std.proofs.Common.{◌≡◌, ℕ, Bool, ◌<◌}
use Rattle.joblist.specs.Fields.{jobs}
use Rattle.late.proofs.Marks.{Marks, comes}
use Rattle.late.proofs.followers.Given as goal

abbrev pub invariant-loop-e : goal.invariant-loop-e
invariant-loop-e g l =
    (test : ℕ → Bool) → ((p : ℕ) (b : Bool) → p < jobs l.s → goal.F-post g l.passes p b → b ≡ test p) → Marks (comes l.s test) l.r l.e
