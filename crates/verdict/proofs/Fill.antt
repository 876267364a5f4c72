-- An array filled one entry after the other.
-- Assumes nothing.
use mathlib.Core.List.{List}
use mathlib.Core.Path.{◌∙◌, ◌≡◌, ap, sym}
use Prim.Native.Nat.{◌+◌, ◌<◌, ℕ}
use native.Mathlib.Decide.{ℕ_discrete}
use native.Mathlib.Omega.{arith}
use lib.ListN.{length, set}
use lib.Seq.{get_or-set_other, get_or-set_same}
use Rattle.basics.specs.Units.{units_of}

-- what holds below i, and of the entry written at i, holds below i + 1
pub fill_more : (a : List ℕ) (i v : ℕ) (g : ℕ → ℕ) → i < length a → ((k : ℕ) → k < i → units_of a k ≡ g k) → v ≡ g i
    → (k : ℕ) → k < i + 1 → units_of (set a i v) k ≡ g k
fill_more a i v g l h e k b = go (ℕ_discrete k i)
  where
    go : Dec (k ≡ i) → units_of (set a i v) k ≡ g k
    go (yes p) = ap (units_of (set a i v)) p ∙ get_or-set_same a i v 0 l ∙ e ∙ sym (ap g p)
    go (no p) = get_or-set_other a i k v 0 p ∙ h k (omega arith)
