-- At t the first t entries of each table stand.
-- Assumes nothing.
use Rattle.std.proofs.Common.{◌≡◌, ◌++◌, get_or}
use Rattle.basics.specs.Limits.{first_edition}
use Rattle.dispatch.specs.Open.{entries}
use Rattle.dispatch.proofs.open.tables.Given as goal

abbrev pub invariant-loop-t : goal.invariant-loop-t
invariant-loop-t l = l.out ≡ entries first_edition.slots (λ i. get_or l.lo i 0) l.t ++ entries first_edition.slots (λ i. get_or l.hi i 0) l.t
