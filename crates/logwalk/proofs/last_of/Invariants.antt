-- From the last plan so far, what is left of the walk leads to the last of all.
-- Assumes nothing.
use Rattle.std.proofs.Common.{◌≡◌, ◌≤◌, ◌-◌, length, IfSome}
use Rattle.basics.specs.Limits.{first_edition}
use Rattle.logwalk.specs.Walk.{end_of, walk_from, walk, last_plan}
use Rattle.logwalk.proofs.Steps.{last_after}
use Rattle.logwalk.proofs.last_of.Given as goal

abbrev pub invariant-loop-size : goal.invariant-loop-size
invariant-loop-size l =
    (l.end ≤ length l.store) × IfSome l.last (λ p. end_of p ≤ length l.store)
    × (last_after l.last (walk_from first_edition l.store l.end) ≡ last_plan (walk first_edition l.store))

abbrev pub decreases-loop-size : goal.decreases-loop-size
decreases-loop-size l = length l.store - l.end
