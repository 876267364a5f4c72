-- What was written in bytes is read again.
-- Assumes nothing.
use Prim.Native.Nat.{ℕ, ◌+◌, ◌^◌, ◌<◌}
use mathlib.Core.Path.{◌≡◌}
use mathlib.Core.List.{List, ◌++◌}
use native.Mathlib.Omega.{arith}
use native.Mathlib.Nat.{add_assoc}
use lib.ListN.{length}
use lib.Seq.{get_or-append-add}
use Rattle.basics.specs.Bytes.{u16_at, u32_at, le2, le4}

pub le2_back : (x : ℕ) (rest : List ℕ) → x < 2 ^ 16 → u16_at (le2 x ++ rest) 0 ≡ x
unfolding u16_at
le2_back x rest h = omega arith

pub le4_back : (x : ℕ) (rest : List ℕ) → x < 2 ^ 32 → u32_at (le4 x ++ rest) 0 ≡ x
unfolding u32_at
le4_back x rest h = omega arith

-- a number past the first list stands in the second
pub u16_past : (xs ys : List ℕ) (i : ℕ) → u16_at (xs ++ ys) (length xs + i) ≡ u16_at ys i
unfolding u16_at
u16_past xs ys i = simp (add_assoc, get_or-append-add)

pub u32_past : (xs ys : List ℕ) (i : ℕ) → u32_at (xs ++ ys) (length xs + i) ≡ u32_at ys i
unfolding u32_at
u32_past xs ys i = simp (add_assoc, get_or-append-add)
