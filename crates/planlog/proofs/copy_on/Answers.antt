-- One byte more is written behind those that were.
-- Assumes nothing.
use Rattle.std.proofs.Common.{ap, arith}
use Rattle.planlog.specs.Writes.{after}
use Rattle.planlog.proofs.Writes.{copies_all, copy_step}
use Rattle.planlog.proofs.copy_on.Goals as goal

pub loop-i-preserved : goal.loop-i-preserved
loop-i-preserved c =
    rw c.loop-i.invariant (copy_step c.args.store.now c.args.at c.args.bytes.now c.loop-i.i (omega arith))

pub returns : goal.returns
returns c = rw c.loop-i.invariant (ap (after c.args.store.now) (copies_all c.args.at c.args.bytes.now c.loop-i.i (omega arith)))
