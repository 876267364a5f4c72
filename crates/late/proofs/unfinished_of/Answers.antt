-- A job takes the units of the level.
-- Assumes nothing.
use Rattle.std.proofs.Common.{rules}
use Rattle.late.specs.Late.{takes}
use Rattle.late.proofs.unfinished_of.Goals as goal

pub returns : goal.returns
returns c = c.undone_of.ensures (takes c.args.list.bytes.now c.args.v) (λ j k l p. search rules)
