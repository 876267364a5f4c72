-- A real execution again, with a demand that is the same for each job.
-- Assumes nothing.
use mathlib.Core.Logic.{inl}
use mathlib.Core.Path.{◌∙◌, ◌≡◌, ap, refl, subst, sym}
use Prim.Native.Nat.{◌<◌, ℕ}
use native.Mathlib.Omega.{arith}
use Rattle.frame.proofs.Alike.{opening_more}
use Rattle.frame.specs.Demand.{Real}
use Rattle.frame.specs.Execution.{Bad, Badness, State, before, early, late, opening}
use Rattle.frame.specs.Jobs.{Frame, WellFormed}
use Rattle.frame.specs.Search.{Fault}

module _ (F : Frame) (W : WellFormed F) (c e : ℕ → ℕ) (same : (i : ℕ) → i < F.n → c i ≡ e i) where
  opening_same : (t : ℕ) → opening F c t ≡ opening F e t
  opening_same t = opening_more F W c e t (λ i a. inl (same i a))

  bad_same : (t : ℕ) (s : State) (w : Badness) → Bad F c t s w → Bad F e t s w
  unfolding Bad
  bad_same t s (late j) x = (x.0, x.1, x.2, omega (arith, x.3, same j x.0))
  bad_same t s (early j) x = (x.0, x.1, x.2, omega (arith, x.3, same j x.0), x.4)
  bad_same t s (before j p) x = (x.0, x.1, x.2, omega (arith, x.3, same j x.0), x.4, x.5, omega (arith, x.6, same p x.4))

  pub again : (f : Fault) (r : Real F f) → r.demand ≡ c → (z : Real F f) × (z.demand ≡ e)
  again f r is = (
    record {
      demand = e;
      valid = λ i a. let v = r.valid i a in let d = ap (λ (g : ℕ → ℕ). g i) is in (omega (arith, v, d, same i a), omega (arith, v, d, same i a));
      in_frame = r.in_frame;
      bad = subst (λ (s : State). Bad F e f.slot s f.kind) (opening_same f.slot) (bad_same f.slot (opening F c f.slot) f.kind (subst (λ (g : ℕ → ℕ). Bad F g f.slot (opening F g f.slot) f.kind) is r.bad));
      switched = ap (λ (s : State). s.chain) (sym (opening_same f.slot)) ∙ ap (λ (g : ℕ → ℕ). (opening F g f.slot).chain) (sym is) ∙ r.switched;
    },
    refl,
  )
