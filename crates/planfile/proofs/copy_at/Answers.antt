-- One byte more is put behind those that were.
-- Assumes nothing.
use Rattle.std.proofs.Common.{arith}
use Rattle.basics.proofs.Put.{put_more}
use Rattle.planfile.proofs.copy_at.Goals as goal

pub loop-i-preserved : goal.loop-i-preserved
loop-i-preserved c =
    rw c.loop-i.invariant (put_more c.args.out.now c.args.at c.args.s.now c.loop-i.i (omega arith) (omega arith))
