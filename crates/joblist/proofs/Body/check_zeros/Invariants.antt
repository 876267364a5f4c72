-- At j the answer is what jobs j to n - 1 still answer.
-- Assumes nothing.
use Rattle.std.proofs.Common.{◌≡◌}
use Rattle.basics.specs.Turns.{turns}
use Rattle.std.specs.Prelude.{Ok}
use Rattle.basics.specs.Chain.{◌⨾◌, each}
use Rattle.joblist.specs.Answer.{zero_answer}
use Rattle.joblist.proofs.Body.check_zeros.Given as goal

abbrev pub invariant-loop-j : goal.invariant-loop-j
invariant-loop-j l = each l.self.jobs (zero_answer l.self.bytes.now) ≡ turns ◌⨾◌ (Ok tt) (zero_answer l.self.bytes.now) l.self.jobs l.j
