-- At i the first i ends stand.
-- Assumes nothing.
use Rattle.std.proofs.Common.{◌≡◌, ◌+◌, ◌*◌, get_or}
use Rattle.basics.specs.Limits.{first_edition}
use Rattle.joblist.specs.Fields.{job_at}
use Rattle.dispatch.specs.Open.{entries}
use Rattle.dispatch.proofs.open.ends.Given as goal

abbrev pub invariant-loop-i : goal.invariant-loop-i
invariant-loop-i l = l.out ≡ entries (2 * first_edition.edges) (λ k. get_or l.list (job_at l.n + k) 0) l.i
