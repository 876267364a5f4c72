-- An undone job is the test.
-- Assumes nothing.
use Rattle.std.proofs.Common.{rules}
use Rattle.late.specs.Table.{marked, waits}
use Rattle.late.proofs.waiting_of.Goals as goal

pub returns : goal.returns
unfolding waits
returns c = c.followers.ensures (marked c.args.undone.now) (λ p b l k. search rules)
