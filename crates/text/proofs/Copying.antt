-- A copy into a part of a buffer puts the bytes at the place where the part begins.
-- Assumes nothing.
use Rattle.std.proofs.Common.{ℕ, ◌≡◌, List, ◌++◌, length, take, drop, append_assoc}
use Rattle.std.proofs.Math.Seq.{drop-drop}
use Rattle.basics.specs.Put.{put}

pub copied : (d s : List ℕ) (at : ℕ) → take at d ++ (s ++ drop (length s) (drop at d)) ≡ put d at s
unfolding put
copied d s at = rw (append_assoc, drop-drop)
