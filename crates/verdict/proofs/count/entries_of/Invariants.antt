-- The count so far, no more than the entries seen.
-- Assumes nothing.
use Rattle.std.proofs.Common.{◌≡◌, ◌≤◌, count_by, eqb, take}
use Rattle.verdict.proofs.count.entries_of.Given as goal

abbrev pub invariant-loop-other : goal.invariant-loop-other
invariant-loop-other l = (l.count ≤ l.other-index) × (l.count ≡ count_by (λ x. eqb x l.entry) (take l.other-index l.few))
