-- Two demands that find the same jobs unfinished make the same execution.
-- Assumes nothing.
use mathlib.Core.Bool.{Bool, ◌&&◌, ◌||◌, false, true}
use mathlib.Core.List.{List}
use mathlib.Core.Logic.{◌⊎◌, inl, inr}
use mathlib.Core.Option.{Option, none, some}
use mathlib.Core.Path.{◌∙◌, ◌≡◌, ap, refl, subst, sym}
use Prim.Native.Nat.{◌<◌, ◌≤◌, suc, zero, ℕ}
use native.Mathlib.Omega.{arith}
use borrow.Author.Tests.{lt-ltb, ltb-true}
use lib.Dec.{T, leb, ltb, lt→ltb}
use lib.ListN.{length, length-replicate}
use Rattle.basics.proofs.Find.{find_cong}
use Rattle.basics.proofs.Tests.{lie, of_false, of_true}
use Rattle.basics.proofs.Units.{more_length, more_on, more_up}
use Rattle.basics.specs.Find.{is_none}
use Rattle.basics.specs.Units.{one_more, units_of}
use Rattle.frame.proofs.Step.{runs_job, slot_eq}
use Rattle.frame.specs.Execution.{State, next_mode, opening, outran, ready, runs, slot_with, step, switch_to, waits_for}
use Rattle.frame.specs.Jobs.{Frame, WellFormed}

switch_had : (b : Bool) (t m : ℕ) (o : Option ℕ) (u : List ℕ) (c : List ℕ) → (switch_to b t m o u c).had ≡ u
unfolding switch_to
switch_had false t m o u c = refl
switch_had true t m none u c = refl
switch_had true t m (some m') u c = refl

module _ (F : Frame) (W : WellFormed F) where
  pub step_had : (c : ℕ → ℕ) (t : ℕ) (s : State) → (step F c t s).had ≡ one_more (runs F c t s.mode s.had (F.table s.mode t)) (F.table s.mode t) s.had
  unfolding step slot_with
  step_had c t s =
      let j = F.table s.mode t in
      let r = runs F c t s.mode s.had j in
      switch_had (r && outran F c s.mode (suc (units_of s.had j)) j) t s.mode (next_mode F j s.mode) (one_more r j s.had) s.chain

  pub step_up : (c : ℕ → ℕ) (t : ℕ) (s : State) (i : ℕ) → units_of s.had i ≤ units_of (step F c t s).had i
  step_up c t s i =
      subst (λ (u : List ℕ). units_of s.had i ≤ units_of u i) (sym (step_had c t s)) (more_up (runs F c t s.mode s.had (F.table s.mode t)) (F.table s.mode t) s.had i)

  pub opening_length : (c : ℕ → ℕ) (t : ℕ) → length (opening F c t).had ≡ F.n
  unfolding opening
  opening_length c zero = length-replicate F.n 0
  opening_length c (suc t) =
      let s = opening F c t in
      ap length (step_had c t s) ∙ more_length (runs F c t s.mode s.had (F.table s.mode t)) (F.table s.mode t) s.had ∙ opening_length c t

  -- two demands that find the same jobs unfinished
  abbrev pub Alike : (c c' : ℕ → ℕ) (u : List ℕ) → Type 0
  Alike c c' u = (i : ℕ) → i < F.n → ltb (units_of u i) (c i) ≡ ltb (units_of u i) (c' i)

  waits_alike : (c c' : ℕ → ℕ) (u : List ℕ) (j : ℕ) → Alike c c' u → waits_for F c u j ≡ waits_for F c' u j
  unfolding waits_for
  waits_alike c c' u j a = find_cong (λ (p : ℕ). F.edge p j && ltb (units_of u p) (c p)) (λ (p : ℕ). F.edge p j && ltb (units_of u p) (c' p)) F.n 0 (λ x _ l. ap (λ (b : Bool). F.edge x j && b) (a x (omega arith)))

  pub runs_alike : (c c' : ℕ → ℕ) (t m : ℕ) (u : List ℕ) (j : ℕ) → Alike c c' u → runs F c t m u j ≡ runs F c' t m u j
  unfolding runs ready
  runs_alike c c' t m u j a = go (ltb j F.n) refl
    where
      go : (b : Bool) → ltb j F.n ≡ b → runs F c t m u j ≡ runs F c' t m u j
      go true p = let h = a j (ltb-true j F.n p) in
          λ x. ltb j F.n && (h x && (leb m (F.level j) || (leb (F.arrival j) t && (ltb t (F.deadline j) && is_none (waits_alike c c' u j a x)))))
      go false p = lie (runs F c t m u j) (λ z. of_false p (lt→ltb j F.n (runs_job F W c t m u j z))) ∙ sym (lie (runs F c' t m u j) (λ z. of_false p (lt→ltb j F.n (runs_job F W c' t m u j z))))

  step_alike : (c c' : ℕ → ℕ) (t : ℕ) (s : State) → Alike c c' s.had
      → ((j : ℕ) → F.table s.mode t ≡ j → T (runs F c t s.mode s.had j) → ltb (suc (units_of s.had j)) (c j) ≡ ltb (suc (units_of s.had j)) (c' j))
      → step F c t s ≡ step F c' t s
  unfolding outran switch_to
  step_alike c c' t s a l = go (runs F c t s.mode s.had (F.table s.mode t)) refl
    where
      j : ℕ
      j = F.table s.mode t

      ra : runs F c t s.mode s.had j ≡ runs F c' t s.mode s.had j
      ra = runs_alike c c' t s.mode s.had j a

      oa : T (runs F c t s.mode s.had j) → outran F c s.mode (suc (units_of s.had j)) j ≡ outran F c' s.mode (suc (units_of s.had j)) j
      oa r = λ x. l j refl r x && leb (F.budget j s.mode) (suc (units_of s.had j))

      go : (b : Bool) → runs F c t s.mode s.had j ≡ b → step F c t s ≡ step F c' t s
      go false p =
          slot_eq F W c t s.mode s.mode_before s.chain s.had j false _ _ refl p refl refl
          ∙ sym (slot_eq F W c' t s.mode s.mode_before s.chain s.had j false (outran F c' s.mode (suc (units_of s.had j)) j) (next_mode F j s.mode) refl (sym ra ∙ p) refl refl)
      go true p =
          slot_eq F W c t s.mode s.mode_before s.chain s.had j true _ _ refl p refl refl
          ∙ sym (slot_eq F W c' t s.mode s.mode_before s.chain s.had j true (outran F c s.mode (suc (units_of s.had j)) j) (next_mode F j s.mode) refl (sym ra ∙ p) (sym (oa (of_true p))) refl)

  -- a demand that asks more only of jobs that are unfinished all the while makes the same run
  abbrev pub More : (c c' : ℕ → ℕ) (u : List ℕ) → ℕ → Type 0
  More c c' u i = (c i ≡ c' i) ⊎ ((units_of u i < c i) × (c i ≤ c' i))

  pub more_test : (c c' : ℕ → ℕ) (u : List ℕ) (i v : ℕ) → v ≤ units_of u i → More c c' u i → ltb v (c i) ≡ ltb v (c' i)
  more_test c c' u i v a (inl e) = ap (ltb v) e
  more_test c c' u i v a (inr e) = lt-ltb v (c i) (omega arith) ∙ sym (lt-ltb v (c' i) (omega arith))

  pub opening_more : (c c' : ℕ → ℕ) (t : ℕ) → ((i : ℕ) → i < F.n → More c c' (opening F c t).had i) → opening F c t ≡ opening F c' t
  unfolding opening
  opening_more c c' zero d = refl
  opening_more c c' (suc t) d =
      step_alike c c' t (opening F c t)
      (λ i a. more_test c c' (opening F c (suc t)).had i (units_of (opening F c t).had i) (step_up c t (opening F c t) i) (d i a))
      (λ j p r. more_test c c' (opening F c (suc t)).had j (suc (units_of (opening F c t).had j)) (ran j p r) (d j (runs_job F W c t (opening F c t).mode (opening F c t).had j r)))
      ∙ ap (step F c' t) (opening_more c c' t (λ i a. earlier i (d i a)))
    where
      s : State
      s = opening F c t

      earlier : (i : ℕ) → More c c' (step F c t s).had i → More c c' s.had i
      earlier i (inl e) = inl e
      earlier i (inr e) = inr (omega (arith, step_up c t s i), e.1)

      ran : (j : ℕ) → F.table s.mode t ≡ j → T (runs F c t s.mode s.had j) → suc (units_of s.had j) ≤ units_of (step F c t s).had j
      ran j p r =
          let h : units_of (step F c t s).had j ≡ suc (units_of s.had j) = ap (λ (u : List ℕ). units_of u j) (step_had c t s ∙ ap (λ (k : ℕ). one_more (runs F c t s.mode s.had k) k s.had) p) ∙ more_on (runs F c t s.mode s.had j) j s.had (omega (arith, opening_length c t, runs_job F W c t s.mode s.had j r)) r in
          omega arith
