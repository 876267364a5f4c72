-- One zero more is written before those that were.
-- Assumes nothing.
use Rattle.std.proofs.Common.{◌≡◌, ◌+◌, ◌-◌, length, arith}
use Rattle.planlog.proofs.Writes.{zero_step}
use Rattle.planlog.proofs.zero_back.Goals as goal

pub loop-place-preserved : goal.loop-place-preserved
loop-place-preserved c =
    let n = length c.args.store.now in
    let place = c.loop-place.place in
    let at : n - (n - place + 1) ≡ place - 1 = omega arith in
    let count : n - place + 1 ≡ n - (place - 1) = omega arith in
    (omega arith, rw c.loop-place.invariant.1 (rw (at, count) at (zero_step c.args.store.now c.args.end (n - place) (omega arith) (omega arith))))

pub returns : goal.returns
returns c =
    let count : length c.args.store.now - c.loop-place.place ≡ c.args.k = omega arith in
    rw count at c.loop-place.invariant.1
