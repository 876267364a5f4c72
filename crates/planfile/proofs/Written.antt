-- Laws of what is written: a plan's length, and its four parts put one after the other.
-- Assumes nothing.
use Prim.Native.Nat.{ℕ, ◌+◌, ◌≤◌}
use mathlib.Core.Path.{◌≡◌, refl}
use mathlib.Core.List.{List, ◌++◌}
use native.Mathlib.Omega.{arith}
use lib.ListN.{length, length-append}
use Rattle.basics.specs.Put.{put}
use Rattle.basics.proofs.Put.{put_put}
use Rattle.planfile.specs.Plan.{trailer, trailer_bytes, plan_of}

module _ (list lo hi : List ℕ) where
  pub body_length : length (list ++ lo ++ hi) ≡ length list + length lo + length hi
  body_length = rw (length-append (list ++ lo), length-append list)

  pub plan_length : length (plan_of list lo hi) ≡ length list + length lo + length hi + trailer_bytes
  unfolding plan_of
  plan_length = rw (length-append (list ++ lo ++ hi), body_length)

-- one part more, right behind those at the front
one_more : (d v w : List ℕ) (n : ℕ) → length v ≡ n → n ≤ length d → put (put d 0 v) n w ≡ put d 0 (v ++ w)
one_more d v w n e h = let z : 0 + length v ≡ n = omega arith in rw z at (put_put d 0 v (omega arith) w)

-- a plan, part by part
pub four : (d list lo hi : List ℕ) → length list + length lo + length hi ≤ length d → put (put (put (put d 0 list) (length list) lo) (length list + length lo) hi) (length list + length lo + length hi) (trailer (length list + length lo + length hi)) ≡ put d 0 (plan_of list lo hi)
unfolding plan_of
four d list lo hi h =
    rw (one_more d list lo _ refl (omega arith), one_more d (list ++ lo) hi _ (length-append list lo) (omega arith))
    (one_more d (list ++ lo ++ hi) _ _ (body_length list lo hi) h)
