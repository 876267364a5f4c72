-- At j it has the largest deadline of jobs 0 to j - 1.
-- Assumes nothing.
use Rattle.std.proofs.Common.{◌≡◌}
use Rattle.joblist.specs.Answer.{largest}
use Rattle.joblist.proofs.Body.longest.Given as goal

abbrev pub invariant-loop-j : goal.invariant-loop-j
invariant-loop-j l = l.longest ≡ largest l.self.bytes.now l.j
