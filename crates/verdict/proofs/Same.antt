-- The scan sees edges, needs and units of jobs only: where they are the same below n, so is what it finds.
-- Assumes nothing.
use mathlib.Core.Bool.{Bool, ◌&&◌, ◌||◌, false, true}
use mathlib.Core.List.{List, ◌∷◌}
use mathlib.Core.Option.{Option, none, some}
use mathlib.Core.Path.{◌∙◌, ◌≡◌, ap, ap₂, refl, sym}
use Prim.Native.Nat.{◌<◌, ◌≤◌, suc, zero, ℕ}
use native.Mathlib.Omega.{arith}
use borrow.Author.Tests.{eqb-false, eqb-true, ltb-true}
use lib.Dec.{eqb, leb, ltb}
use lib.ListN.{length}
use Rattle.basics.proofs.Find.{find_cong}
use Rattle.basics.proofs.Tests.{and_left, not_both, of_true}
use Rattle.basics.proofs.Units.{more_length, more_off, more_on, more_other}
use Rattle.basics.specs.Find.{is_none}
use Rattle.basics.specs.Units.{one_more, units_of}
use Rattle.frame.specs.Execution.{State, next_mode, outran, ready, runs, slot_with, state, step, switch_to, waits_for}
use Rattle.frame.specs.Jobs.{Frame}
use Rattle.frame.specs.Search.{before_if, early_if, fault_at, fault_of, late_if, late_job, or_else, owed, scan}
use Rattle.joblist.specs.Fields.{arrival, deadline, level}
use Rattle.verdict.specs.FrameOf.{frame_with}

module _ (s : List ℕ) (n l : ℕ) (lo hi : List ℕ) (edge edge' : ℕ → ℕ → Bool) (edges : (p q : ℕ) → p < n → q < n → edge p q ≡ edge' p q) where
  abbrev F : Frame
  F = frame_with s n l lo hi edge

  abbrev G : Frame
  G = frame_with s n l lo hi edge'

  pub record Same (u u' : List ℕ) : Type 0 where
    pub at : (i : ℕ) → i < n → units_of u i ≡ units_of u' i
    pub long : n ≤ length u
    pub long' : n ≤ length u'

  pub data Like : State → State → Type 0 where
    like : (m q : ℕ) (c u u' : List ℕ) → Same u u' → Like (state m q c u) (state m q c u')

  -- what holds of jobs alone holds of both
  pub job_case : (j : ℕ) (x y : Bool) → (j < n → x ≡ y) → (ltb j n && x) ≡ (ltb j n && y)
  job_case j x y h = go (ltb j n) refl
    where
      go : (b : Bool) → ltb j n ≡ b → (b && x) ≡ (b && y)
      go true p = h (ltb-true _ _ p)
      go false p = refl

  pub more_same : (r : Bool) (j : ℕ) (u u' : List ℕ) → (r ≡ true → j < n) → Same u u' → Same (one_more r j u) (one_more r j u')
  more_same r j u u' b h = record {
    at = λ i k. go r refl i k (eqb i j) refl;
    long = rw (more_length r j u) h.long;
    long' = rw (more_length r j u') h.long';
  }
    where
      go : (x : Bool) → r ≡ x → (i : ℕ) → i < n → (z : Bool) → eqb i j ≡ z → units_of (one_more r j u) i ≡ units_of (one_more r j u') i
      go false g i k z p = rw (g, more_off j u, more_off j u') (h.at i k)
      go true g i k true p =
          let q : i ≡ j = eqb-true _ _ p in
          let y = b g in
          rw q (more_on r j u (omega (arith, h.long)) (of_true g) ∙ ap suc (h.at j y) ∙ sym (more_on r j u' (omega (arith, h.long')) (of_true g)))
      go true g i k false p =
          let q : ¬ (i ≡ j) = eqb-false _ _ p in
          more_other r j u i q ∙ h.at i k ∙ sym (more_other r j u' i q)

  module _ (e e' : ℕ → ℕ) (ens : (i : ℕ) → i < n → e i ≡ e' i) where
    module _ (u u' : List ℕ) (h : Same u u') where
      left_same : (i : ℕ) → i < n → ltb (units_of u i) (e i) ≡ ltb (units_of u' i) (e' i)
      left_same i k = ap₂ ltb (h.at i k) (ens i k)

      waits_same : (j : ℕ) → j < n → waits_for F e u j ≡ waits_for G e' u' j
      unfolding waits_for
      waits_same j b = find_cong _ _ n 0 (λ p _ k. ap₂ ◌&&◌ (edges p j (omega arith) b) (left_same p (omega arith)))

      ready_same : (t j : ℕ) → j < n → ready F e t u j ≡ ready G e' t u' j
      unfolding ready
      ready_same t j b = ap (λ (o : Option ℕ). leb (arrival s j) t && (ltb t (deadline s j) && is_none o)) (waits_same j b)

      runs_same : (t m j : ℕ) → runs F e t m u j ≡ runs G e' t m u' j
      unfolding runs
      runs_same t m j = job_case j _ _ (λ b. ap₂ ◌&&◌ (left_same j b) (ap (λ (x : Bool). leb m (level s j) || x) (ready_same t j b)))

      late_same : (t q : ℕ) → late_job F e t q u ≡ late_job G e' t q u'
      unfolding late_job
      late_same t q = find_cong _ _ n 0 (λ i _ k. ap (λ (x : Bool). eqb (deadline s i) t && (leb q (level s i) && x)) (left_same i (omega arith)))

      owed_same : (m j : ℕ) → owed F e m u j ≡ owed G e' m u' j
      unfolding owed
      owed_same m j = job_case j _ _ (λ b. ap (λ (x : Bool). leb m (level s j) && x) (left_same j b))

      owed_job : (m j : ℕ) → owed G e' m u' j ≡ true → j < n
      unfolding owed
      owed_job m j p = ltb-true _ _ (and_left (ltb j n) _ p)

      runs_job : (t m j : ℕ) → runs F e t m u j ≡ true → j < n
      unfolding runs
      runs_job t m j p = ltb-true _ _ (and_left (ltb j n) _ p)

      outran_same : (m j : ℕ) → j < n → outran F e m (suc (units_of u j)) j ≡ outran G e' m (suc (units_of u' j)) j
      unfolding outran
      outran_same m j b = ap₂ (λ (x y : ℕ). ltb (suc x) y && leb (F.budget j m) (suc x)) (h.at j b) (ens j b)

      -- the fault at a slot
      fault_same : (t m q : ℕ) (c : List ℕ) → fault_at F e t (state m q c u) ≡ fault_at G e' t (state m q c u')
      unfolding fault_at fault_of
      fault_same t m q c =
          ap₂ or_else (ap (late_if t z) (late_same t q) ∙ late_if_lem (late_job G e' t q u'))
          (ap₂ or_else (ap (λ (b : Bool). early_if t z j (b && ltb t (arrival s j))) (owed_same m j) ∙ early_if_lem (owed G e' m u' j && ltb t (arrival s j)))
          (before_if_lem (owed F e m u j) (owed G e' m u' j) (owed_same m j) (owed_job m j)))
        where
          j : ℕ
          j = F.table m t

          z : State
          z = state m q c u

          z' : State
          z' = state m q c u'

          late_if_lem : (o : Option ℕ) → late_if t z o ≡ late_if t z' o
          late_if_lem none = refl
          late_if_lem (some i) = refl

          early_if_lem : (b : Bool) → early_if t z j b ≡ early_if t z' j b
          early_if_lem true = refl
          early_if_lem false = refl

          either : (o : Option ℕ) → before_if t z j true o ≡ before_if t z' j true o
          either none = refl
          either (some p) = refl

          before_if_lem : (w w' : Bool) → w ≡ w' → (w' ≡ true → j < n) → before_if t z j w (waits_for F e u j) ≡ before_if t z' j w' (waits_for G e' u' j)
          before_if_lem true true p g = ap (before_if t z j true) (waits_same j (g refl)) ∙ either (waits_for G e' u' j)
          before_if_lem false false p g = refl
          before_if_lem true false p g = absurd (not_both refl p)
          before_if_lem false true p g = absurd (not_both p refl)

      switch_same : (b : Bool) (t m : ℕ) (o : Option ℕ) (c : List ℕ) (v v' : List ℕ) → Same v v' → Like (switch_to b t m o v c) (switch_to b t m o v' c)
      unfolding switch_to
      switch_same false t m o c v v' k = like m m c v v' k
      switch_same true t m none c v v' k = like m m c v v' k
      switch_same true t m (some x) c v v' k = like x m (t ∷ c) v v' k

      step_same : (t m q : ℕ) (c : List ℕ) → Like (step F e t (state m q c u)) (step G e' t (state m q c u'))
      unfolding step slot_with next_mode
      step_same t m q c = go (runs F e t m u j) (runs G e' t m u' j) refl (runs_same t m j)
        where
          j : ℕ
          j = F.table m t

          go : (r r' : Bool) → runs F e t m u j ≡ r → r ≡ r'
              → Like (switch_to (r && outran F e m (suc (units_of u j)) j) t m (next_mode F j m) (one_more r j u) c) (switch_to (r' && outran G e' m (suc (units_of u' j)) j) t m (next_mode G j m) (one_more r' j u') c)
          go true true g p =
              let b = runs_job t m j g in
              rw (← outran_same m j b) (switch_same _ t m (next_mode F j m) c _ _ (more_same true j u u' (λ z. b) h))
          go false false g p = switch_same false t m (next_mode F j m) c _ _ (more_same false j u u' (λ z. absurd (not_both z refl)) h)
          go true false g p = absurd (not_both refl p)
          go false true g p = absurd (not_both p refl)

    pub scan_same : (k t : ℕ) (z z' : State) → Like z z' → scan F e k t z ≡ scan G e' k t z'
    unfolding scan
    scan_same zero t z z' (like m q c u u' h) = fault_same u u' h t m q c
    scan_same (suc k) t z z' (like m q c u u' h) =
        ap₂ or_else (fault_same u u' h t m q c) (scan_same k (suc t) _ _ (step_same u u' h t m q c))
