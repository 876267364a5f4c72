-- The count of the blocks so far, and what is left.
-- Assumes nothing.
use Rattle.std.proofs.Common.{◌≡◌, ◌+◌, count_by, eqb, length}
use Rattle.verdict.proofs.count.entries_by_block.Given as goal

abbrev pub invariant-loop-rest : goal.invariant-loop-rest
invariant-loop-rest l = l.count + count_by (λ x. eqb x l.entry) l.rest ≡ count_by (λ x. eqb x l.entry) l.table

abbrev pub decreases-loop-rest : goal.decreases-loop-rest
decreases-loop-rest l = length l.rest
