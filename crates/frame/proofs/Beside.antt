-- An execution beside the one that the search follows: while it stays in its mode, and when it switches.
-- Assumes nothing.
use mathlib.Core.Bool.{Bool, ◌&&◌, false, not, true}
use mathlib.Core.List.{List}
use mathlib.Core.Logic.{◌⊎◌, inl, inr}
use mathlib.Core.Option.{Option, some}
use mathlib.Core.Path.{◌∙◌, ◌≡◌, ap, refl, subst, sym}
use Prim.Native.Nat.{◌<◌, ◌≤◌, suc, ℕ}
use native.Mathlib.Omega.{arith}
use borrow.Author.Tests.{eqb-false, eqb-true, leb-false, leb-true, ltb-false}
use lib.Dec.{T, eqb, eqb→eq, leb, leb→le, ltb, ltb→lt}
use lib.ListN.{length}
use Rattle.basics.proofs.Tests.{decide, eq→eqb, lie, of_true}
use Rattle.basics.proofs.Units.{more_length, more_on, more_other, more_up}
use Rattle.basics.specs.Units.{one_more, units_of}
use Rattle.frame.proofs.Step.{next_has, next_mode_lem, outran_e, outran_i, runs_job, runs_owed, slot_eq}
use Rattle.frame.specs.Execution.{Bad, Badness, Valid, before, early, late, next_mode, outran, runs, state, step, switch_to}
use Rattle.frame.specs.Jobs.{Frame, WellFormed}
use Rattle.frame.specs.Search.{needs_after}

module _ (F : Frame) where
  -- what a job needs after a switch
  pub data Need (c : ℕ → ℕ) (u : List ℕ) (k m i : ℕ) : Type 0 where
    open! : (i ≡ k) ⊎ (units_of u i < c i) → needs_after F c u k m i ≡ F.budget i m → Need c u k m i
    shut! : ¬ (i ≡ k) → c i ≤ units_of u i → needs_after F c u k m i ≡ c i → Need c u k m i

  pub need : (c : ℕ → ℕ) (u : List ℕ) (k m i : ℕ) → Need c u k m i
  unfolding needs_after
  need c u k m i = go (eqb i k) (leb (c i) (units_of u i)) refl refl
    where
      eq : (a b : Bool) → eqb i k ≡ a → leb (c i) (units_of u i) ≡ b → needs_after F c u k m i ≡ elim (not a && b) [ true ↦ c i | false ↦ F.budget i m ]
      eq a b p q = λ x. elim (not (p x) && q x) [ true ↦ c i | false ↦ F.budget i m ]

      go : (a b : Bool) → eqb i k ≡ a → leb (c i) (units_of u i) ≡ b → Need c u k m i
      go true b p q = open! (inl (eqb-true i k p)) (eq true b p q)
      go false true p q = shut! (eqb-false i k p) (leb-true (c i) (units_of u i) q) (eq false true p q)
      go false false p q = open! (inr (leb-false (c i) (units_of u i) q)) (eq false false p q)

  -- an execution beside the one that the search follows: of a job that is owed its slots, it is finished or both stand alike
  abbrev pub Same : (e c : ℕ → ℕ) (ue uc : List ℕ) → ℕ → Type 0
  Same e c ue uc i = (e i ≤ units_of ue i) ⊎ ((units_of ue i ≡ units_of uc i) × (units_of uc i < c i))

  pub record Rel (e c : ℕ → ℕ) (m q : ℕ) (ue uc : List ℕ) : Type 0 where
    pub up : q ≤ m
    pub below : m < F.K
    pub len_e : length ue ≡ F.n
    pub len_c : length uc ≡ F.n
    pub same : (i : ℕ) → i < F.n → q ≤ F.level i → Same e c ue uc i
    pub crit : (i : ℕ) → i < F.n → units_of uc i < c i → c i ≡ F.budget i m

  module _ (W : WellFormed F) where
    -- the critical execution does not switch by itself
    pub crit_step : (c : ℕ → ℕ) (t m q : ℕ) (h : List ℕ) (u : List ℕ) (j : ℕ) → F.table m t ≡ j → ((i : ℕ) → i < F.n → units_of u i < c i → c i ≡ F.budget i m)
        → step F c t (state m q h u) ≡ state m m h (one_more (runs F c t m u j) j u)
    unfolding switch_to
    crit_step c t m q h u j p cr = go (runs F c t m u j) (outran F c m (suc (units_of u j)) j) (next_mode F j m) refl refl refl
      where
        go : (b o : Bool) (x : Option ℕ) → runs F c t m u j ≡ b → outran F c m (suc (units_of u j)) j ≡ o → next_mode F j m ≡ x
            → step F c t (state m q h u) ≡ state m m h (one_more (runs F c t m u j) j u)
        go false o x p₂ p₃ p₄ = slot_eq F W c t m q h u j false o x p p₂ p₃ p₄ ∙ ap (λ (b : Bool). state m m h (one_more b j u)) (sym p₂)
        go true false x p₂ p₃ p₄ = slot_eq F W c t m q h u j true false x p p₂ p₃ p₄ ∙ ap (λ (b : Bool). state m m h (one_more b j u)) (sym p₂)
        go true true x p₂ p₃ p₄ =
            let a = outran_e F W c m (suc (units_of u j)) j (of_true p₃) in
            let y = cr j (runs_job F W c t m u j (of_true p₂)) (omega arith) in
            absurd (omega arith)

    module _ (e : ℕ → ℕ) (ok : Valid F e) where
      -- what is wrong in the execution is wrong in the critical one
      pub bad_up : (c : ℕ → ℕ) (t m q : ℕ) (h : List ℕ) (ue uc : List ℕ) → Rel e c m q ue uc → (w : Badness) → Bad F e t (state m q h ue) w → Bad F c t (state m q h uc) w
      unfolding Bad
      bad_up c t m q h ue uc R w x = go w x
        where
          un : (i : ℕ) → i < F.n → q ≤ F.level i → units_of ue i < e i → units_of uc i < c i
          un i a b d = f (R.same i a b)
            where
              f : Same e c ue uc i → units_of uc i < c i
              f (inl y) = absurd (omega arith)
              f (inr y) = y.1

          go : (w : Badness) → Bad F e t (state m q h ue) w → Bad F c t (state m q h uc) w
          go (late j) x = (x.0, x.1, x.2, un j x.0 x.2 x.3)
          go (early j) x = (x.0, x.1, x.2, un j x.0 (omega (arith, R.up)) x.3, x.4)
          go (before j p) x =
              let d = W.edge_down p j x.4 x.0 x.5 in
              (x.0, x.1, x.2, un j x.0 (omega (arith, R.up)) x.3, x.4, x.5, un p x.4 (omega (arith, R.up)) x.6)

      -- a slot in which the execution stays in its mode
      pub stay_rel : (c : ℕ → ℕ) (t m q : ℕ) (ue uc : List ℕ) (j : ℕ) (b : Bool) → runs F e t m ue j ≡ b → ¬ (T b × T (outran F e m (suc (units_of ue j)) j))
          → Rel e c m q ue uc → Rel e c m m (one_more b j ue) (one_more (runs F c t m uc j) j uc)
      stay_rel c t m q ue uc j b p nov R = record {
        up = omega arith;
        below = R.below;
        len_e = more_length b j ue ∙ R.len_e;
        len_c = more_length (runs F c t m uc j) j uc ∙ R.len_c;
        same = λ i a d. at_i i a d (decide (eqb i j));
        crit = λ i a d. let h = more_up (runs F c t m uc j) j uc i in R.crit i a (omega arith);
      }
        where
          -- both run
          both : j < F.n → m ≤ F.level j → units_of ue j < e j → units_of ue j ≡ units_of uc j → units_of uc j < c j → Same e c (one_more b j ue) (one_more (runs F c t m uc j) j uc) j
          both a d y g l = f (decide (leb (e j) (suc (units_of ue j))))
            where
              be : units_of (one_more b j ue) j ≡ suc (units_of ue j)
              be = more_on b j ue (omega (arith, R.len_e)) (subst T p (runs_owed F W e t m ue j a y d))

              bc : units_of (one_more (runs F c t m uc j) j uc) j ≡ suc (units_of uc j)
              bc = more_on (runs F c t m uc j) j uc (omega (arith, R.len_c)) (runs_owed F W c t m uc j a l d)

              tb : T b
              tb = subst T p (runs_owed F W e t m ue j a y d)

              f : T (leb (e j) (suc (units_of ue j))) ⊎ ¬ T (leb (e j) (suc (units_of ue j))) → Same e c (one_more b j ue) (one_more (runs F c t m uc j) j uc) j
              f (inl z) = let z' = leb→le (e j) (suc (units_of ue j)) z in inl (omega (arith, be))
              f (inr z) = g₂ (decide (leb (F.budget j m) (suc (units_of ue j))))
                where
                  z' : suc (units_of ue j) < e j
                  z' = leb-false (e j) (suc (units_of ue j)) (lie (leb (e j) (suc (units_of ue j))) z)

                  g₂ : T (leb (F.budget j m) (suc (units_of ue j))) ⊎ ¬ T (leb (F.budget j m) (suc (units_of ue j))) → Same e c (one_more b j ue) (one_more (runs F c t m uc j) j uc) j
                  g₂ (inl v) = absurd (nov (tb, outran_i F W e m (suc (units_of ue j)) j z' (leb→le (F.budget j m) (suc (units_of ue j)) v)))
                  g₂ (inr v) =
                      let v' = leb-false (F.budget j m) (suc (units_of ue j)) (lie (leb (F.budget j m) (suc (units_of ue j))) v) in
                      let k = R.crit j a l in
                      inr (omega (arith, be, bc), omega (arith, be, bc))

          at_j : j < F.n → m ≤ F.level j → Same e c (one_more b j ue) (one_more (runs F c t m uc j) j uc) j
          at_j a d = f (R.same j a (omega (arith, R.up))) (decide (ltb (units_of ue j) (e j)))
            where
              f : Same e c ue uc j → T (ltb (units_of ue j) (e j)) ⊎ ¬ T (ltb (units_of ue j) (e j)) → Same e c (one_more b j ue) (one_more (runs F c t m uc j) j uc) j
              f (inl y) z = inl (omega (arith, more_up b j ue j))
              f (inr y) (inr z) = let z' = ltb-false (units_of ue j) (e j) (lie (ltb (units_of ue j) (e j)) z) in inl (omega (arith, more_up b j ue j))
              f (inr y) (inl z) = both a d (ltb→lt (units_of ue j) (e j) z) y.0 y.1

          at_i : (i : ℕ) → i < F.n → m ≤ F.level i → T (eqb i j) ⊎ ¬ T (eqb i j) → Same e c (one_more b j ue) (one_more (runs F c t m uc j) j uc) i
          at_i i a d (inl x) =
              let q' : j ≡ i = sym (eqb→eq i j x) in
              subst (λ (k : ℕ). Same e c (one_more b j ue) (one_more (runs F c t m uc j) j uc) k) q' (at_j (subst (λ (k : ℕ). k < F.n) (sym q') a) (subst (λ (k : ℕ). m ≤ F.level k) (sym q') d))
          at_i i a d (inr x) = f (R.same i a (omega (arith, R.up)))
            where
              ne : ¬ (i ≡ j)
              ne q' = x (eq→eqb i j q')

              be : units_of (one_more b j ue) i ≡ units_of ue i
              be = more_other b j ue i ne

              bc : units_of (one_more (runs F c t m uc j) j uc) i ≡ units_of uc i
              bc = more_other (runs F c t m uc j) j uc i ne

              f : Same e c ue uc i → Same e c (one_more b j ue) (one_more (runs F c t m uc j) j uc) i
              f (inl y) = inl (omega (arith, be))
              f (inr y) = inr (omega (arith, be, bc), omega (arith, be, bc))

      -- a slot in which it goes to another
      pub go_rel : (c : ℕ → ℕ) (t m q : ℕ) (ue uc : List ℕ) (j m' : ℕ) → T (runs F e t m ue j) → suc (units_of ue j) < e j → F.budget j m ≤ suc (units_of ue j) → next_mode F j m ≡ some m'
          → Rel e c m q ue uc → T (runs F c t m uc j) × (suc (units_of uc j) ≡ F.budget j m) × Rel e (needs_after F c (one_more true j uc) j m') m' m (one_more true j ue) (one_more true j uc)
      go_rel c t m q ue uc j m' r l b x R = f (R.same j jn (omega (arith, R.up, owed_j)))
        where
          jn : j < F.n
          jn = runs_job F W e t m ue j r

          owed_j : m < F.level j
          owed_j = (next_has F W e ok j m (suc (units_of ue j)) jn R.below l b).0

          nx : (F.budget j m < F.budget j m') × (m < m') × (m' < F.K)
          nx = next_mode_lem F W j m m' jn R.below x

          same' : units_of ue j ≡ units_of uc j → units_of uc j < c j → (i : ℕ) → i < F.n → m ≤ F.level i → Need c (one_more true j uc) j m' i → T (eqb i j) ⊎ ¬ T (eqb i j)
              → Same e (needs_after F c (one_more true j uc) j m') (one_more true j ue) (one_more true j uc) i
          same' g y i a d (open! z n) (inl v) =
              let w : i ≡ j = eqb→eq i j v in
              let k = R.crit j jn y in
              let be : units_of (one_more true j ue) i ≡ suc (units_of ue j) = subst (λ (k : ℕ). units_of (one_more true j ue) k ≡ suc (units_of ue j)) (sym w) (more_on true j ue (omega (arith, R.len_e)) tt) in
              let bc : units_of (one_more true j uc) i ≡ suc (units_of uc j) = subst (λ (k : ℕ). units_of (one_more true j uc) k ≡ suc (units_of uc j)) (sym w) (more_on true j uc (omega (arith, R.len_c)) tt) in
              let bm : F.budget i m' ≡ F.budget j m' = ap (λ (k : ℕ). F.budget k m') w in
              inr (be ∙ ap suc g ∙ sym bc, omega (arith, n, bc, bm, nx))
          same' g y i a d (shut! z w n) (inl v) = absurd (z (eqb→eq i j v))
          same' g y i a d N (inr v) = f N (R.same i a (omega (arith, R.up)))
            where
              ne : ¬ (i ≡ j)
              ne q' = v (eq→eqb i j q')

              be : units_of (one_more true j ue) i ≡ units_of ue i
              be = more_other true j ue i ne

              bc : units_of (one_more true j uc) i ≡ units_of uc i
              bc = more_other true j uc i ne

              f : Need c (one_more true j uc) j m' i → Same e c ue uc i → Same e (needs_after F c (one_more true j uc) j m') (one_more true j ue) (one_more true j uc) i
              f N (inl o) = inl (omega (arith, be))
              f (shut! z w n) (inr o) = absurd (omega (arith, bc))
              f (open! z n) (inr o) =
                  let k = R.crit i a o.1 in
                  let k' = W.budget_up i m m' a (omega (arith, nx)) nx.2 in
                  inr (be ∙ o.0 ∙ sym bc, omega (arith, n, bc))

          crit' : (i : ℕ) → Need c (one_more true j uc) j m' i → units_of (one_more true j uc) i < needs_after F c (one_more true j uc) j m' i → needs_after F c (one_more true j uc) j m' i ≡ F.budget i m'
          crit' i (open! z n) d = n
          crit' i (shut! z w n) d = absurd (omega arith)

          f : Same e c ue uc j → T (runs F c t m uc j) × (suc (units_of uc j) ≡ F.budget j m) × Rel e (needs_after F c (one_more true j uc) j m') m' m (one_more true j ue) (one_more true j uc)
          f (inl y) = absurd (omega arith)
          f (inr y) = (
            runs_owed F W c t m uc j jn y.1 (omega (arith, owed_j)),
            omega (arith, R.crit j jn y.1),
            record {
              up = omega (arith, nx);
              below = nx.2;
              len_e = more_length true j ue ∙ R.len_e;
              len_c = more_length true j uc ∙ R.len_c;
              same = λ i a d. same' y.0 y.1 i a d (need c (one_more true j uc) j m' i) (decide (eqb i j));
              crit = λ i a d. crit' i (need c (one_more true j uc) j m' i) d;
            },
          )
