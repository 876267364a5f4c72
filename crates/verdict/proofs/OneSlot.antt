-- The tests of one slot, case by case.
-- Assumes nothing.
use mathlib.Core.Bool.{Bool, ◌&&◌, cond, false, not, true}
use mathlib.Core.List.{List, []}
use mathlib.Core.Path.{◌∙◌, ◌≡◌, refl}
use Prim.Native.Nat.{◌<◌, ℕ}
use borrow.Author.Tests.{ltb-true}
use lib.Dec.{eqb, leb, ltb}
use Rattle.basics.proofs.Tests.{and_left, and_right}
use Rattle.basics.specs.Units.{units_of}
use Rattle.frame.specs.Execution.{runs}
use Rattle.frame.specs.Jobs.{Frame}
use Rattle.frame.specs.TwoLevels.{needs_hi}
use Rattle.joblist.specs.Fields.{deadline, high, level, ordinary}
use Rattle.verdict.specs.FrameOf.{frame_with}
use Rattle.verdict.specs.Inner.{edge_at, square}

-- a job late at t

abbrev pub late_test : List ℕ → List ℕ → List ℕ → ℕ → ℕ → ℕ → Bool
late_test s need had t q i = eqb (deadline s i) t && (leb q (level s i) && ltb (units_of had i) (units_of need i))

-- a predecessor of j that is unfinished
abbrev pub wait_test : List Bool → List ℕ → List ℕ → ℕ → ℕ → Bool
wait_test b need had j p = edge_at b p j && ltb (units_of had p) (units_of need p)

-- a job that runs is a job, and has units left
module _ (s : List ℕ) (n l : ℕ) (lo hi : List ℕ) (edge : ℕ → ℕ → Bool) (e : ℕ → ℕ) (m : ℕ) (u : List ℕ) (j : ℕ) where
  abbrev F : Frame
  F = frame_with s n l lo hi edge

  module _ (t : ℕ) where
    pub runs_left : runs F e t m u j ≡ true → (j < n) × (units_of u j < e j)
    unfolding runs
    runs_left p =
        (ltb-true _ _ (and_left (ltb j n) _ p), ltb-true _ _ (and_left (ltb (units_of u j) (e j)) _ (and_right (ltb j n) _ p)))

-- what a job needs after a switch
pub need_is : (s : List ℕ) (n : ℕ) (had : List ℕ) (k i v : ℕ) → v ≡ cond (not (eqb i k) && leb (ordinary s i) (units_of had i)) (ordinary s i) (high s i)
    → v ≡ needs_hi (square s n []) had k i
unfolding needs_hi
need_is s n had k i v h = h ∙ go (not (eqb i k) && leb (ordinary s i) (units_of had i))
  where
    go : (b : Bool) → cond b (ordinary s i) (high s i) ≡ elim b [ true ↦ ordinary s i | false ↦ high s i ]
    go true = refl
    go false = refl
