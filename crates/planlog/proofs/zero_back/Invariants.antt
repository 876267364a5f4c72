-- So many of the zeros are written, the store's last byte first.
-- Assumes nothing.
use Rattle.std.proofs.Common.{◌≡◌, ◌≤◌, ◌-◌, length, take}
use Rattle.planlog.specs.Writes.{zeros, after}
use Rattle.planlog.proofs.zero_back.Given as goal

abbrev pub invariant-loop-place : goal.invariant-loop-place
invariant-loop-place l =
    (length l.initial.store - l.k ≤ l.place)
    × (l.store ≡ after l.initial.store (take (length l.initial.store - l.place) (zeros l.end (length l.initial.store - l.end))))
