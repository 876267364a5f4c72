-- At i the number so far goes on with the digits from i on.
use Rattle.std.proofs.Common.{◌≡◌, drop}
use Rattle.std.specs.Prelude.{Some}
use Rattle.text.specs.Number.{goes_on, number_in}
use Rattle.text.proofs.read.number.Given as goal

abbrev pub invariant-loop-x : goal.invariant-loop-x
invariant-loop-x l = number_in l.most l.s ≡ goes_on l.most (Some l.n) (drop l.x-index l.s)
