-- The closed forms that faster searches need: before the first switch, and in two levels after it.
-- Assumes nothing.
use mathlib.Core.List.{List, [], ◌∷◌}
use mathlib.Core.Logic.{inl, inr}
use mathlib.Core.Path.{◌∙◌, ◌≡◌, ap, refl, sym}
use Prim.Native.Nat.{◌+◌, ◌-◌, ◌<◌, ◌≤◌, min, suc, zero, ℕ}
use native.Mathlib.Omega.{arith}
use Rattle.basics.proofs.Below.{entries_alike, entries_rise, entries_zero}
use Rattle.basics.specs.Below.{entries_before}
use Rattle.basics.specs.Units.{units_of}
use Rattle.frame.proofs.Step.{Slot, goes, next_mode_lem, runs_job, slot_cases, stays}
use Rattle.frame.proofs.TwoLevels.{Two, in_hi, in_lo, two_modes}
use Rattle.frame.proofs.Units.{modes, named_at, owed_count}
use Rattle.frame.specs.Execution.{State, Valid, opening, step}
use Rattle.frame.specs.Jobs.{Frame, WellFormed}

module _ (F : Frame) (W : WellFormed F) (e : ℕ → ℕ) (ok : Valid F e) where
  -- before the first switch the frame is in its first mode, and table LO names the jobs
  pub before_switch : (t : ℕ) → (opening F e t).chain ≡ [] → ((opening F e t).mode ≡ 0) × ((i : ℕ) → entries_before (named_at F W e ok) i t ≡ entries_before (F.table 0) i t)
  unfolding opening
  before_switch zero n = (refl, λ i. entries_zero (named_at F W e ok) i ∙ sym (entries_zero (F.table 0) i))
  before_switch (suc t) n = go (slot_cases F W e ok t s.mode s.mode_before s.chain s.had (F.table s.mode t) (modes F W e ok t).within refl) (before_switch t)
    where
      s : State
      s = opening F e t

      go : Slot F W e t s.mode s.mode_before s.chain s.had (F.table s.mode t)
          → (s.chain ≡ [] → (s.mode ≡ 0) × ((i : ℕ) → entries_before (named_at F W e ok) i t ≡ entries_before (F.table 0) i t))
          → ((step F e t s).mode ≡ 0) × ((i : ℕ) → entries_before (named_at F W e ok) i (suc t) ≡ entries_before (F.table 0) i (suc t))
      go (goes r l v m' nx eq) ih =
          let n' : t ∷ s.chain ≡ [] = sym (ap (λ (x : State). x.chain) eq) ∙ n in
          let z : ◌≡◌ {A = ℕ} 0 1 = cc in absurd (omega arith)
      go (stays b p nov eq) ih =
          let h = ih (sym (ap (λ (x : State). x.chain) eq) ∙ n) in
          (ap (λ (x : State). x.mode) eq ∙ h.0, λ i. omega (arith, h.1 i, entries_alike (named_at F W e ok) (F.table 0) i t (ap (λ (m : ℕ). F.table m t) h.0)))

  -- before the first switch a job has had min (demand, entries so far)
  pub lo_units_lem : (t i : ℕ) → (opening F e t).chain ≡ [] → i < F.n → units_of (opening F e t).had i ≡ min (e i) (entries_before (F.table 0) i t)
  lo_units_lem t i n a =
      let h = before_switch t n in
      omega (arith, owed_count F W e ok t i a (omega (arith, (modes F W e ok t).rising)), h.1 i)

  module _ (two : F.K ≡ 2) where
    -- after a switch at x: the entries of table LO to x, and those of table HI since
    after_switch : (t x i : ℕ) → (opening F e t).chain ≡ x ∷ [] → entries_before (named_at F W e ok) i t + entries_before (F.table 1) i (suc x) ≡ entries_before (F.table 0) i (suc x) + entries_before (F.table 1) i t
    unfolding opening
    after_switch zero x i n = let z : ◌≡◌ {A = ℕ} 0 1 = cc in absurd (omega arith)
    after_switch (suc t) x i n =
        go (two_modes F W two e ok t) (slot_cases F W e ok t s.mode s.mode_before s.chain s.had (F.table s.mode t) (modes F W e ok t).within refl) (after_switch t x i)
      where
        s : State
        s = opening F e t

        go : Two t s → Slot F W e t s.mode s.mode_before s.chain s.had (F.table s.mode t)
            → (s.chain ≡ x ∷ [] → entries_before (named_at F W e ok) i t + entries_before (F.table 1) i (suc x) ≡ entries_before (F.table 0) i (suc x) + entries_before (F.table 1) i t)
            → entries_before (named_at F W e ok) i (suc t) + entries_before (F.table 1) i (suc x) ≡ entries_before (F.table 0) i (suc x) + entries_before (F.table 1) i (suc t)
        go (in_lo a b c) (stays z p nov eq) ih =
            let n' : ◌≡◌ {A = List ℕ} [] (x ∷ []) = sym c ∙ sym (ap (λ (y : State). y.chain) eq) ∙ n in
            let z : ◌≡◌ {A = ℕ} 0 1 = cc in absurd (omega arith)
        go (in_lo a b c) (goes r l v m' nx eq) ih =
            let n' : t ∷ [] ≡ x ∷ [] = ap (λ (h : List ℕ). t ∷ h) (sym c) ∙ sym (ap (λ (y : State). y.chain) eq) ∙ n in
            let q : t ≡ x = cc in
            let h = (before_switch t c).1 i in
            rw (← q) (omega (arith, h, entries_alike (named_at F W e ok) (F.table 0) i t (ap (λ (m : ℕ). F.table m t) a)))
        go (in_hi y a b c) (stays z p nov eq) ih =
            let h = ih (sym (ap (λ (y : State). y.chain) eq) ∙ n) in
            omega (arith, h, entries_alike (named_at F W e ok) (F.table 1) i t (ap (λ (m : ℕ). F.table m t) a))
        go (in_hi y a b c) (goes r l v m' nx eq) ih =
            let u = next_mode_lem F W (F.table s.mode t) s.mode m' (runs_job F W e t s.mode s.had (F.table s.mode t) r) (modes F W e ok t).within nx in
            absurd (omega arith)

    -- after a switch at x a high job has had min (demand, LO entries to x and HI entries since)
    pub hi_units : (t x i : ℕ) → (opening F e t).chain ≡ x ∷ [] → i < F.n → F.level i ≡ 1
        → units_of (opening F e t).had i ≡ min (e i) (entries_before (F.table 0) i (suc x) + (entries_before (F.table 1) i t - entries_before (F.table 1) i (suc x)))
    hi_units t x i n a v =
        let M = modes F W e ok t in
        let c = owed_count F W e ok t i a (omega (arith, M.rising, M.within)) in
        let d = entries_rise (F.table 1) i (suc x) t (since (two_modes F W two e ok t)) in
        omega (arith, c, d, after_switch t x i n)
      where
        since : Two t (opening F e t) → suc x ≤ t
        since (in_lo p q r) =
            let n' : ◌≡◌ {A = List ℕ} [] (x ∷ []) = sym r ∙ n in
            let z : ◌≡◌ {A = ℕ} 0 1 = cc in absurd (omega arith)
        since (in_hi y p q (inl r)) =
            let n' : y ∷ [] ≡ x ∷ [] = sym q ∙ n in
            let z : y ≡ x = cc in omega arith
        since (in_hi y p q (inr r)) =
            let n' : y ∷ [] ≡ x ∷ [] = sym q ∙ n in
            let z : y ≡ x = cc in omega arith
