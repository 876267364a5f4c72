-- So many of the bytes are written, the first one first.
-- Assumes nothing.
use Rattle.std.proofs.Common.{◌≡◌, take}
use Rattle.planlog.specs.Writes.{copies, after}
use Rattle.planlog.proofs.copy_on.Given as goal

abbrev pub invariant-loop-i : goal.invariant-loop-i
invariant-loop-i l = l.store ≡ after l.initial.store (take l.i (copies l.at l.bytes))
