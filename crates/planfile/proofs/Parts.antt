-- Laws of the parts of a plan: what a part is, and how its end is found.
-- Assumes nothing.
use Prim.Native.Nat.{ℕ, ◌-◌, ◌≤◌, ◌<◌}
use mathlib.Core.Path.{◌≡◌, sym, ◌∙◌}
use mathlib.Core.List.{List, []}
use native.Mathlib.Omega.{arith}
use borrow.Author.Tests.{le-leb, lt-leb}
use lib.ListN.{length, take, drop, length-drop}
use lib.Seq.{take_all}
use Rattle.planfile.specs.Plan.{least_bytes, part_of}

module _ (s : List ℕ) (at k : ℕ) where
  pub part_none : length s < least_bytes → part_of s at k ≡ []
  unfolding part_of
  part_none h = rw (lt-leb _ _ h)

  pub part_some : least_bytes ≤ length s → part_of s at k ≡ take k (drop at s)
  unfolding part_of
  part_some h = rw (le-leb _ _ h)

  -- it runs past the end
  pub part_rest : length s - at ≤ k → take (length s - at) (drop at s) ≡ take k (drop at s)
  part_rest h =
      let e : length (drop at s) ≡ length s - at = length-drop at s in
      take_all (length s - at) (drop at s) (omega arith) ∙ sym (take_all k (drop at s) (omega arith))
