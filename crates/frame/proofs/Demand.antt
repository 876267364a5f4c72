-- Demand 3.
-- Assumes nothing.
use mathlib.Core.Path.{◌≡◌, refl}
use Prim.Native.Nat.{◌≤◌, ℕ}
use Rattle.frame.proofs.Complete.{complete}
use Rattle.frame.proofs.Sound.{sound}
use Rattle.frame.specs.Demand.{Demand3}
use Rattle.frame.specs.Execution.{BadAt, Badness, Valid}
use Rattle.frame.specs.Jobs.{Frame, WellFormed}
use Rattle.frame.specs.Search.{Finding, first_fault, found, nothing}

module _ (F : Frame) (W : WellFormed F) where
  good→nothing : ((e : ℕ → ℕ) → Valid F e → (t : ℕ) → t ≤ F.L → (w : Badness) → ¬ BadAt F e t w) → first_fault F ≡ nothing
  good→nothing g = go (first_fault F) refl
    where
      go : (a : Finding) → first_fault F ≡ a → first_fault F ≡ nothing
      go nothing x = x
      go (found f) x = let r = sound F W f x in absurd (g r.demand r.valid f.slot r.in_frame f.kind r.bad)

  pub demand3 : Demand3 F
  demand3 = record { yes_iff = (λ x e ok t l w. complete F W e ok x t l w, good→nothing); no_real = sound F W }
