-- The bytes before i are put, and the rest of the buffer is as it was.
-- Assumes nothing.
use Rattle.std.proofs.Common.{◌≡◌, take}
use Rattle.basics.specs.Put.{put}
use Rattle.planfile.proofs.copy_at.Given as goal

abbrev pub invariant-loop-i : goal.invariant-loop-i
invariant-loop-i l = l.out ≡ put l.initial.out l.at (take l.i l.s)
