-- An accepted list gives a well_formed frame, whatever the tables.
-- Assumes nothing.
use mathlib.Core.List.{List}
use mathlib.Core.Path.{◌≡◌, refl, sym}
use Prim.Native.Nat.{◌<◌, ◌≤◌, suc, zero, ℕ}
use native.Mathlib.Omega.{arith}
use Rattle.basics.proofs.Tests.{truth}
use Rattle.basics.specs.Limits.{Limits}
use Rattle.frame.specs.Jobs.{Frame, WellFormed}
use Rattle.joblist.proofs.Accepted.{edge_jobs}
use Rattle.joblist.specs.Accepted.{Accepted}
use Rattle.joblist.specs.Fields.{jobs, level}
use Rattle.verdict.specs.FrameOf.{frame_of}

module _ (lim : Limits) (s lo hi : List ℕ) (A : Accepted lim s) where
  abbrev F : Frame
  F = frame_of s lo hi

  up : (j m m' : ℕ) → j < jobs s → m ≤ m' → m' < 2 → F.budget j m ≤ F.budget j m'
  up j zero zero b l k = omega arith
  up j zero (suc zero) b l k = (A.job j b).rising
  up j (suc zero) (suc zero) b l k = omega arith
  up j (suc m) zero b l k = absurd (omega arith)
  up j m (suc (suc m')) b l k = absurd (omega arith)
  up j (suc (suc m)) (suc zero) b l k = absurd (omega arith)

  top : (j m v : ℕ) → j < jobs s → level s j ≡ v → v ≤ m → m < 2 → F.budget j m ≡ F.budget j v
  top j zero zero b e l k = refl
  top j (suc zero) (suc zero) b e l k = refl
  top j (suc zero) zero b e l k = sym ((A.job j b).equal e)
  top j zero (suc v) b e l k = absurd (omega arith)
  top j (suc (suc m)) v b e l k = absurd (omega arith)
  top j (suc zero) (suc (suc v)) b e l k = absurd (omega arith)

  pub well_formed : WellFormed (frame_of s lo hi)
  well_formed = record {
    modes = omega arith;
    level_below = λ j b. omega (arith, (A.job j b).known);
    budget_one = λ j b. (A.job j b).one;
    budget_up = up;
    budget_top = λ j m b l k. top j m (level s j) b refl l k;
    edge_down = λ p q a b t. (edge_jobs lim s A p q (truth _ t)).2;
  }
