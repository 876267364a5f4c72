-- One entry of each table more.
-- Assumes nothing.
use Rattle.std.proofs.Common.{arith}
use Rattle.dispatch.proofs.Entries.{both_turn}
use Rattle.dispatch.proofs.open.tables.Goals as goal

pub loop-t-preserved : goal.loop-t-preserved
loop-t-preserved c = both_turn _ _ _ _ _ (omega arith) c.loop-t.invariant
