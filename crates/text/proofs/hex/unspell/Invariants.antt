-- At i the buffer has the bytes of the first i pairs, and the other pairs are left.
use Rattle.std.proofs.Common.{◌≡◌, ◌≤◌, ◌*◌, length, drop}
use Rattle.basics.specs.Put.{put}
use Rattle.text.specs.Hex.{bytes_of}
use Rattle.text.proofs.hex.unspell.Given as goal

abbrev pub invariant-loop-i : goal.invariant-loop-i
invariant-loop-i l =
    let i = l.i-iterator.count in
    record { bytes : l.out ≡ put l.initial.out l.at (bytes_of l.s i); within : 2 * i ≤ length l.s; left : l.i-iterator.iter.rest.now ≡ drop (2 * i) l.s; pairs : l.i-iterator.iter.size ≡ 2 }
