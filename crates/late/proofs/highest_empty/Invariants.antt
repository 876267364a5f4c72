-- No slot from x on is empty.
-- Assumes nothing.
use Rattle.std.proofs.Common.{◌≡◌}
use Rattle.basics.specs.Find.{highest}
use Rattle.late.specs.Table.{empty}
use Rattle.late.proofs.highest_empty.Given as goal

abbrev pub invariant-loop-x : goal.invariant-loop-x
invariant-loop-x l =
    highest (empty l.list.bytes.now l.table) l.t l.b ≡ highest (empty l.list.bytes.now l.table) l.t l.x
