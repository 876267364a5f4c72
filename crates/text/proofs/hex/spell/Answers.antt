use Rattle.std.proofs.Common.{arith}
use Rattle.basics.proofs.Put.{put_none}
use Rattle.text.specs.Hex.{hex_of}
use Rattle.text.proofs.Digits.{hex_turn}
use Rattle.text.proofs.hex.spell.Goals as goal

pub loop-i-init : goal.loop-i-init
unfolding hex_of
loop-i-init c = put_none _ _ c.args.s.now

pub loop-i-preserved : goal.loop-i-preserved
loop-i-preserved c =
    rw c.loop-i.invariant (hex_turn c.args.out.now c.args.at c.args.s.now c.loop-i.i _ _ (omega arith) c.glyph.ensures c.glyph-in-loop-i.ensures)
