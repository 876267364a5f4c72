-- At i the first i numbers stand.
-- Assumes nothing.
use Rattle.std.proofs.Common.{◌≡◌, ◌+◌, ◌*◌}
use Rattle.basics.specs.Bytes.{u16_at}
use Rattle.basics.specs.Limits.{first_edition}
use Rattle.joblist.specs.Fields.{head_bytes}
use Rattle.dispatch.specs.Open.{entries}
use Rattle.dispatch.proofs.open.numbers.Given as goal

abbrev pub invariant-loop-i : goal.invariant-loop-i
invariant-loop-i l = l.out ≡ entries (5 * first_edition.jobs) (λ k. u16_at l.list (head_bytes + 2 * k)) l.i
