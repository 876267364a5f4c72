-- At j the answer is what jobs j to n - 1 still answer.
-- Assumes nothing.
use Rattle.std.proofs.Common.{◌≡◌}
use Rattle.basics.specs.Turns.{turns}
use Rattle.std.specs.Prelude.{Ok}
use Rattle.basics.specs.Limits.{first_edition}
use Rattle.joblist.specs.Fields.{high}
use Rattle.basics.specs.Chain.{◌⨾◌, each}
use Rattle.joblist.specs.Answer.{job_answer}
use Rattle.joblist.proofs.Body.check_jobs.Given as goal

abbrev pub invariant-loop-j : goal.invariant-loop-j
invariant-loop-j l = each l.self.jobs (job_answer first_edition (high l.self.bytes.now) l.self.bytes.now) ≡ turns ◌⨾◌ (Ok tt) (job_answer first_edition (high l.self.bytes.now) l.self.bytes.now) l.self.jobs l.j
