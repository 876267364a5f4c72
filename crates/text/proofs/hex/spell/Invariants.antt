-- At i the buffer has the digits of the first i bytes.
use Rattle.std.proofs.Common.{◌≡◌}
use Rattle.basics.specs.Put.{put}
use Rattle.text.specs.Hex.{hex_of}
use Rattle.text.proofs.hex.spell.Given as goal

abbrev pub invariant-loop-i : goal.invariant-loop-i
invariant-loop-i l = l.out ≡ put l.initial.out l.at (hex_of l.s l.i)
