-- Where the search finds nothing, no execution is bad.
-- Assumes nothing.
use mathlib.Core.Bool.{Bool, ◌&&◌, false, true}
use mathlib.Core.List.{List, [], ◌∷◌}
use mathlib.Core.Logic.{inr}
use mathlib.Core.Option.{Option, some}
use mathlib.Core.Path.{◌≡◌, refl, subst, sym}
use Prim.Native.Nat.{◌+◌, ◌≤◌, suc, zero, ℕ}
use native.Mathlib.Omega.{arith}
use borrow.Author.Tests.{eqb-false, eqb-true}
use lib.Dec.{T, eqb}
use lib.ListN.{get_or-replicate, length-replicate, replicate}
use Rattle.basics.proofs.Tests.{and_i, eq→eqb, truth}
use Rattle.basics.specs.Units.{one_more, units_of}
use Rattle.frame.proofs.Beside.{Rel, bad_up, crit_step, go_rel, stay_rel}
use Rattle.frame.proofs.Faults.{fault_at_nothing, or_nothing_l, or_nothing_r}
use Rattle.frame.proofs.Step.{Slot, goes, next_mode_lem, runs_job, slot_cases, stays}
use Rattle.frame.specs.Execution.{Bad, Badness, State, Valid, next_mode, opening, runs, state, step}
use Rattle.frame.specs.Jobs.{Frame, WellFormed}
use Rattle.frame.specs.Search.{Finding, fault_at, first_fault, needs_after, nothing, reaches_budget, scan, search_from, switch_at, switches, try_switch}

module _ (F : Frame) (W : WellFormed F) (e : ℕ → ℕ) (ok : Valid F e) where
  -- nothing goes wrong at slot t and the k slots after it
  unfoldable pub Good : ℕ → ℕ → State → Type 0
  Good zero t s = (w : Badness) → ¬ Bad F e t s w
  Good (suc k) t s = ((w : Badness) → ¬ Bad F e t s w) × Good k (suc t) (step F e t s)

  abbrev Covers : (ℕ → (ℕ → ℕ) → ℕ → State → Finding) → ℕ → Type 0
  Covers rest x = (k : ℕ) (c : ℕ → ℕ) (t m q : ℕ) (h : List ℕ) (ue uc : List ℕ) → Rel F e c m q ue uc → F.K ≤ m + x → rest k c t (state m q h uc) ≡ nothing → Good k t (state m q h ue)

  switch_nothing : (rest : ℕ → (ℕ → ℕ) → ℕ → State → Finding) (k : ℕ) (c : ℕ → ℕ) (t : ℕ) (s : State) (j m' : ℕ)
      → T (runs F c t s.mode s.had j) → suc (units_of s.had j) ≡ F.budget j s.mode → next_mode F j s.mode ≡ some m' → switch_at F rest k c t s j ≡ nothing
      → rest k (needs_after F c (one_more true j s.had) j m') (suc t) (state m' s.mode (t ∷ s.chain) (one_more true j s.had)) ≡ nothing
  unfolding switch_at try_switch reaches_budget
  switch_nothing rest k c t s j m' r q x y =
      subst (λ (b : Bool). try_switch F rest k c t s j b (some m') ≡ nothing) (truth (runs F c t s.mode s.had j && eqb (suc (units_of s.had j)) (F.budget j s.mode)) (and_i (runs F c t s.mode s.had j) (eqb (suc (units_of s.had j)) (F.budget j s.mode)) r (eq→eqb _ _ q)))
      (subst (λ (o : Option ℕ). try_switch F rest k c t s j (reaches_budget F c t s j) o ≡ nothing) x y)

  inner : (rest : ℕ → (ℕ → ℕ) → ℕ → State → Finding) (x : ℕ) → Covers rest x
      → (k : ℕ) (c : ℕ → ℕ) (t m q : ℕ) (h : List ℕ) (ue uc : List ℕ) → Rel F e c m q ue uc → F.K ≤ m + suc x
      → scan F c k t (state m q h uc) ≡ nothing → switches F rest k c t (state m q h uc) ≡ nothing → Good k t (state m q h ue)
  unfolding scan switches Good
  inner rest x ih zero c t m q h ue uc R l a b = λ w y. fault_at_nothing F c t (state m q h uc) a w (bad_up F W e ok c t m q h ue uc R w y)
  inner rest x ih (suc k) c t m q h ue uc R l a b = (
    λ w y. fault_at_nothing F c t (state m q h uc) (or_nothing_l _ _ a) w (bad_up F W e ok c t m q h ue uc R w y),
    go (slot_cases F W e ok t m q h ue (F.table m t) R.below refl) (λ b' R' a' b''. inner rest x ih k c (suc t) m m h (one_more b' (F.table m t) ue) (one_more (runs F c t m uc (F.table m t)) (F.table m t) uc) R' l a' b''),
  )
    where
      j : ℕ
      j = F.table m t

      go : Slot F W e t m q h ue j
          → ((b' : Bool) → Rel F e c m m (one_more b' j ue) (one_more (runs F c t m uc j) j uc)
          → scan F c k (suc t) (state m m h (one_more (runs F c t m uc j) j uc)) ≡ nothing → switches F rest k c (suc t) (state m m h (one_more (runs F c t m uc j) j uc)) ≡ nothing
          → Good k (suc t) (state m m h (one_more b' j ue)))
          → Good k (suc t) (step F e t (state m q h ue))
      go (stays b' p nov eq) rec =
          let cs = crit_step F W c t m q h uc j refl R.crit in
          subst (λ (s : State). Good k (suc t) s) (sym eq)
          (rec b' (stay_rel F W e ok c t m q ue uc j b' p nov R)
          (subst (λ (s : State). scan F c k (suc t) s ≡ nothing) cs (or_nothing_r (fault_at F c t (state m q h uc)) _ a))
          (subst (λ (s : State). switches F rest k c (suc t) s ≡ nothing) cs (or_nothing_r (switch_at F rest k c t (state m q h uc) j) _ b)))
      go (goes r g v m' nx eq) rec =
          let z = go_rel F W e ok c t m q ue uc j m' r g v nx R in
          let n = next_mode_lem F W j m m' (runs_job F W e t m ue j r) R.below nx in
          subst (λ (s : State). Good k (suc t) s) (sym eq)
          (ih k (needs_after F c (one_more true j uc) j m') (suc t) m' m (t ∷ h) (one_more true j ue) (one_more true j uc) z.2 (omega arith)
          (switch_nothing rest k c t (state m q h uc) j m' z.0 z.1 nx (or_nothing_l _ _ b)))

  outer : (x : ℕ) → Covers (search_from F x) x
  unfolding search_from
  outer zero k c t m q h ue uc R l a = absurd (omega (arith, R.below))
  outer (suc x) k c t m q h ue uc R l a =
      inner (search_from F x) x (outer x) k c t m q h ue uc R l (or_nothing_l _ _ a) (or_nothing_r (scan F c k t (state m q h uc)) _ a)

  good_at : (k t : ℕ) → Good k t (opening F e t) → (x : ℕ) → t ≤ x → x ≤ t + k → (w : Badness) → ¬ Bad F e x (opening F e x) w
  unfolding Good opening
  good_at zero t g x a b w y = g w (subst (λ (z : ℕ). Bad F e z (opening F e z) w) (omega arith) y)
  good_at (suc k) t g x a b w y = go (eqb x t) refl (λ h. good_at k (suc t) g.1 x h (omega arith) w y)
    where
      go : (c : Bool) → eqb x t ≡ c → (suc t ≤ x → ⊥) → ⊥
      go true c r = g.0 w (subst (λ (z : ℕ). Bad F e z (opening F e z) w) (eqb-true x t c) y)
      go false c r = let n : ¬ (x ≡ t) = eqb-false x t c in r (omega arith)

  pub complete : first_fault F ≡ nothing → (t : ℕ) → t ≤ F.L → (w : Badness) → ¬ Bad F e t (opening F e t) w
  unfolding first_fault opening
  complete s t l w = good_at F.L 0 (outer F.K F.L (λ j. F.budget j 0) 0 0 0 [] (replicate F.n 0) (replicate F.n 0) begin (omega arith) s) t (omega arith) (omega arith) w
    where
      begin : Rel F e (λ j. F.budget j 0) 0 0 (replicate F.n 0) (replicate F.n 0)
      begin = record {
        up = omega arith;
        below = W.modes;
        len_e = length-replicate F.n 0;
        len_c = length-replicate F.n 0;
        same = λ i a b. inr (refl, rw (get_or-replicate {A = ℕ} F.n i 0 0 a) (W.budget_one i a));
        crit = λ i a b. refl;
      }
