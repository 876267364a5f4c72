-- The closed form of the units that a job has had: what it needs, or as many as tables named it so far.
-- Assumes nothing.
use mathlib.Core.Bool.{Bool, false, true}
use mathlib.Core.List.{List}
use mathlib.Core.Path.{◌∙◌, ◌≡◌, ap, refl, subst, sym}
use Prim.Native.Nat.{◌<◌, ◌≤◌, min, suc, zero, ℕ}
use native.Mathlib.Omega.{arith}
use borrow.Author.Tests.{eqb-false, eqb-true, ltb-false, ltb-true}
use lib.Dec.{T, eqb, ltb}
use lib.ListN.{get_or-replicate}
use Rattle.basics.proofs.Below.{entries_else, entries_here, entries_zero}
use Rattle.basics.proofs.Units.{more_off, more_on, more_other}
use Rattle.basics.specs.Below.{entries_before}
use Rattle.basics.specs.Units.{one_more, units_of}
use Rattle.frame.proofs.Alike.{opening_length, step_had}
use Rattle.frame.proofs.Step.{Slot, goes, next_mode_lem, runs_job, runs_owed, runs_unfinished, slot_cases, stays}
use Rattle.frame.specs.Execution.{State, Valid, opening, runs, step}
use Rattle.frame.specs.Jobs.{Frame, WellFormed}

module _ (F : Frame) (W : WellFormed F) (e : ℕ → ℕ) (ok : Valid F e) where
  -- the job that is named in a slot of the execution
  abbrev pub named_at : ℕ → ℕ
  named_at t = F.table (opening F e t).mode t

  -- modes rise, and stay among the K
  pub record Modes (s : State) : Type 0 where
    pub rising : s.mode_before ≤ s.mode
    pub within : s.mode < F.K

  modes_step : (t : ℕ) (s : State) → Modes s → Modes (step F e t s) × ((step F e t s).mode_before ≡ s.mode)
  modes_step t s M = go (slot_cases F W e ok t s.mode s.mode_before s.chain s.had (F.table s.mode t) M.within refl)
    where
      go : Slot F W e t s.mode s.mode_before s.chain s.had (F.table s.mode t) → Modes (step F e t s) × ((step F e t s).mode_before ≡ s.mode)
      go (stays b p nov eq) = subst (λ (x : State). Modes x × (x.mode_before ≡ s.mode)) (sym eq) (record { rising = omega arith; within = M.within }, refl)
      go (goes r l v m' nx eq) =
          let n = next_mode_lem F W (F.table s.mode t) s.mode m' (runs_job F W e t s.mode s.had (F.table s.mode t) r) M.within nx in
          subst (λ (x : State). Modes x × (x.mode_before ≡ s.mode)) (sym eq) (record { rising = omega arith; within = n.2 }, refl)

  pub modes : (t : ℕ) → Modes (opening F e t)
  unfolding opening
  modes zero = record { rising = omega arith; within = W.modes }
  modes (suc t) = (modes_step t (opening F e t) (modes t)).0

  -- the mode of the slot before
  mode_before_lem : (t : ℕ) → (opening F e (suc t)).mode_before ≡ (opening F e t).mode
  unfolding opening
  mode_before_lem t = (modes_step t (opening F e t) (modes t)).1

  -- a job that was owed its slots so far has had what it needs, or one unit for each entry
  pub owed_count : (t i : ℕ) → i < F.n → (opening F e t).mode_before ≤ F.level i
      → units_of (opening F e t).had i ≡ min (e i) (entries_before named_at i t)
  unfolding opening
  owed_count zero i a l = omega (arith, get_or-replicate {A = ℕ} F.n i 0 0 a, entries_zero named_at i)
  owed_count (suc t) i a l =
      let m : s.mode ≤ F.level i = subst (λ (x : ℕ). x ≤ F.level i) (mode_before_lem t) l in
      let ih = owed_count t i a (omega (arith, (modes t).rising)) in
      ap (λ (u : List ℕ). units_of u i) (step_had F W e t s) ∙ at_i m ih (eqb j i) refl (ltb (units_of s.had i) (e i)) refl
    where
      s : State
      s = opening F e t

      j : ℕ
      j = F.table s.mode t

      ran : Bool
      ran = runs F e t s.mode s.had j

      at_i : s.mode ≤ F.level i → units_of s.had i ≡ min (e i) (entries_before named_at i t) → (x : Bool) → eqb j i ≡ x → (y : Bool) → ltb (units_of s.had i) (e i) ≡ y
          → units_of (one_more (runs F e t s.mode s.had j) j s.had) i ≡ min (e i) (entries_before named_at i (suc t))
      at_i m ih false p y q =
          let ne : ¬ (i ≡ j) = λ z. eqb-false j i p (sym z) in
          omega (arith, more_other ran j s.had i ne, entries_else named_at i t (eqb-false j i p))
      at_i m ih true p true q =
          let z = eqb-true j i p in
          let u = ltb-true (units_of s.had i) (e i) q in
          let r : T ran = subst (λ (k : ℕ). T (runs F e t s.mode s.had k)) (sym z) (runs_owed F W e t s.mode s.had i a u m) in
          let h : units_of (one_more ran j s.had) i ≡ suc (units_of s.had i) = subst (λ (k : ℕ). units_of (one_more ran j s.had) k ≡ suc (units_of s.had k)) z (more_on ran j s.had (omega (arith, opening_length F W e t)) r) in
          omega (arith, entries_here named_at i t z)
      at_i m ih true p false q =
          let z = eqb-true j i p in
          let u = ltb-false (units_of s.had i) (e i) q in
          let idle : ¬ T ran = λ r. let f = runs_unfinished F W e t s.mode s.had j r in let g : units_of s.had i < e i = subst (λ (k : ℕ). units_of s.had k < e k) z f in omega arith in
          let h : units_of (one_more ran j s.had) i ≡ units_of s.had i = stays_put ran idle in
          omega (arith, entries_here named_at i t z)
        where
          stays_put : (b : Bool) → ¬ T b → units_of (one_more b j s.had) i ≡ units_of s.had i
          stays_put true n = absurd (n tt)
          stays_put false n = ap (λ (u : List ℕ). units_of u i) (more_off j s.had)
