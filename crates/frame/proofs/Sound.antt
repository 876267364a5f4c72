-- A fault that the search finds is one of a real execution, whose needs are those that the search went on with behind its switches.
-- Assumes nothing.
use mathlib.Core.Bool.{Bool, ◌&&◌, false, true}
use mathlib.Core.List.{List, [], ◌∷◌}
use mathlib.Core.Logic.{◌⊎◌, inl, inr, ⊎_elim}
use mathlib.Core.Option.{Option, none, some}
use mathlib.Core.Path.{◌∙◌, ◌≡◌, ap, refl, subst, sym}
use Prim.Native.Nat.{◌+◌, ◌<◌, ◌≤◌, suc, zero, ℕ}
use native.Mathlib.Omega.{arith}
use borrow.Author.Tests.{leb-false}
use lib.Dec.{T, eqb, eqb→eq, leb, leb→le}
use lib.ListN.{replicate}
use Rattle.basics.proofs.Tests.{and_l, and_r, decide, lie, of_true, truth}
use Rattle.basics.proofs.Units.{more_up}
use Rattle.basics.specs.Units.{one_more, units_of}
use Rattle.frame.proofs.Alike.{More, more_test, opening_more, runs_alike}
use Rattle.frame.proofs.Beside.{Need, crit_step, need, open!, shut! }
use Rattle.frame.proofs.Faults.{fault_at_found, or_found}
use Rattle.frame.proofs.Step.{next_mode_lem, outran_i, runs_job, runs_unfinished, slot_eq}
use Rattle.frame.specs.Demand.{Real}
use Rattle.frame.specs.Execution.{Bad, State, Valid, next_mode, opening, outran, runs, state, step, switch_to}
use Rattle.frame.specs.Jobs.{Frame, WellFormed}
use Rattle.frame.specs.Search.{Fault, Finding, fault_at, first_fault, found, needs_after, reaches_budget, scan, search_from, switch_at, switches, try_switch}

module _ (F : Frame) where
  -- the needs with which the search goes on behind a chain of switches
  pub data Behind : List ℕ → (ℕ → ℕ) → Type 0 where
    at_first : Behind [] (λ (j : ℕ). F.budget j 0)
    switched_at : {h : List ℕ} {c : ℕ → ℕ} (t m q m' : ℕ) (u : List ℕ) → Behind h c → opening F c t ≡ state m q h u → m < m' → m' < F.K
        → Behind (t ∷ h) (needs_after F c (one_more true (F.table m t) u) (F.table m t) m')

  -- a real execution with such needs
  pub record Shown (f : Fault) : Type 0 where
    pub real : Real F f
    pub needs : Behind f.chain real.demand

module _ (F : Frame) (W : WellFormed F) where
  abbrev Crit : (c : ℕ → ℕ) → ℕ → List ℕ → Type 0
  Crit c m u = (i : ℕ) → i < F.n → units_of u i < c i → c i ≡ F.budget i m

  crit_bump : (c : ℕ → ℕ) (m : ℕ) (u : List ℕ) (b : Bool) (j : ℕ) → Crit c m u → Crit c m (one_more b j u)
  crit_bump c m u b j r i a l = r i a (omega (arith, more_up b j u i))

  module _ (c : ℕ → ℕ) (t m q : ℕ) (h : List ℕ) (u : List ℕ) (j m' : ℕ) (p : F.table m t ≡ j) (r : T (runs F c t m u j)) (b : suc (units_of u j) ≡ F.budget j m)
      (x : next_mode F j m ≡ some m') (cr : Crit c m u) (mk : m < F.K) where
    nx : (F.budget j m < F.budget j m') × (m < m') × (m' < F.K)
    nx = next_mode_lem F W j m m' (runs_job F W c t m u j r) mk x

    switch_more : (i : ℕ) → i < F.n → More F W c (needs_after F c (one_more true j u) j m') u i
    switch_more i a = go (need F c (one_more true j u) j m' i)
      where
        go : Need F c (one_more true j u) j m' i → More F W c (needs_after F c (one_more true j u) j m') u i
        go (shut! z w n) = inl (sym n)
        go (open! (inl z) n) =
            let y : units_of u i < c i = subst (λ (k : ℕ). units_of u k < c k) (sym z) (runs_unfinished F W c t m u j r) in
            let k = W.budget_up i m m' a (omega (arith, nx)) nx.2 in
            let k' = cr i a y in
            inr (y, omega (arith, n))
        go (open! (inr z) n) =
            let y : units_of u i < c i = omega (arith, more_up true j u i) in
            let k = W.budget_up i m m' a (omega (arith, nx)) nx.2 in
            let k' = cr i a y in
            inr (y, omega (arith, n))

    need_j : needs_after F c (one_more true j u) j m' j ≡ F.budget j m'
    need_j = go (need F c (one_more true j u) j m' j)
      where
        go : Need F c (one_more true j u) j m' j → needs_after F c (one_more true j u) j m' j ≡ F.budget j m'
        go (open! z n) = n
        go (shut! z w n) = absurd (z refl)

    -- the execution with the new needs makes the switch
    switch_run : opening F c t ≡ state m q h u → opening F (needs_after F c (one_more true j u) j m') (suc t) ≡ state m' m (t ∷ h) (one_more true j u)
    unfolding opening switch_to
    switch_run y =
        ap (step F c'' t) (sym (opening_more F W c c'' t (λ i a. subst (λ (v : List ℕ). More F W c c'' v i) (sym (ap (λ (s : State). s.had) y)) (switch_more i a))) ∙ y)
        ∙ slot_eq F W c'' t m q h u j true true (some m') p
        (sym (runs_alike F W c c'' t m u j (λ i a. more_test F W c c'' u i (units_of u i) (omega arith) (switch_more i a))) ∙ truth (runs F c t m u j) r)
        (truth (outran F c'' m (suc (units_of u j)) j) (outran_i F W c'' m (suc (units_of u j)) j (omega (arith, need_j, nx)) (omega arith)))
        x
      where
        c'' : ℕ → ℕ
        c'' = needs_after F c (one_more true j u) j m'

    switch_crit : Crit (needs_after F c (one_more true j u) j m') m' (one_more true j u)
    switch_crit i a l = go (need F c (one_more true j u) j m' i)
      where
        go : Need F c (one_more true j u) j m' i → needs_after F c (one_more true j u) j m' i ≡ F.budget i m'
        go (open! z n) = n
        go (shut! z w n) = absurd (omega arith)

    switch_valid : Valid F c → Valid F (needs_after F c (one_more true j u) j m')
    switch_valid ok i a = go (need F c (one_more true j u) j m' i) (decide (leb m' (F.level i)))
      where
        go : Need F c (one_more true j u) j m' i → T (leb m' (F.level i)) ⊎ ¬ T (leb m' (F.level i))
            → (1 ≤ needs_after F c (one_more true j u) j m' i) × (needs_after F c (one_more true j u) j m' i ≤ F.budget i (F.level i))
        go (shut! z w n) y = let o = ok i a in (omega (arith, n), omega (arith, n))
        go (open! z n) (inl y) =
            (omega (arith, n, W.budget_one i a, W.budget_up i 0 m' a (omega arith) nx.2), omega (arith, n, W.budget_up i m' (F.level i) a (leb→le m' (F.level i) y) (W.level_below i a)))
        go (open! z n) (inr y) =
            let y' = leb-false m' (F.level i) (lie (leb m' (F.level i)) y) in
            (omega (arith, n, W.budget_one i a, W.budget_up i 0 m' a (omega arith) nx.2), omega (arith, n, W.budget_top i m' a (omega arith) nx.2))

  fault_real : (c : ℕ → ℕ) (t m q : ℕ) (h : List ℕ) (u : List ℕ) (f : Fault) → Valid F c → t ≤ F.L → opening F c t ≡ state m q h u → Behind F h c
      → fault_at F c t (state m q h u) ≡ found f → Shown F f
  fault_real c t m q h u f ok l y b x =
      let z = fault_at_found F c t (state m q h u) f x in
      subst (Shown F) z.1 (record {
        real = record {
          demand = c;
          valid = ok;
          in_frame = l;
          bad = subst (λ (s : State). Bad F c t s z.0) (sym y) z.2;
          switched = ap (λ (s : State). s.chain) y;
        };
        needs = b;
      })

  abbrev Honest : (ℕ → (ℕ → ℕ) → ℕ → State → Finding) → Type 0
  Honest rest = (k : ℕ) (c : ℕ → ℕ) (t m q : ℕ) (h : List ℕ) (u : List ℕ) (f : Fault) → Valid F c → t + k ≡ F.L → opening F c t ≡ state m q h u → Crit c m u → m < F.K → Behind F h c
      → rest k c t (state m q h u) ≡ found f → Shown F f

  scan_real : Honest (λ k c t s. scan F c k t s)
  unfolding scan opening
  scan_real zero c t m q h u f ok l y cr mk b x = fault_real c t m q h u f ok (omega arith) y b x
  scan_real (suc k) c t m q h u f ok l y cr mk b x =
      go (or_found (fault_at F c t (state m q h u)) _ f x)
      (λ z. scan_real k c (suc t) m m h (one_more (runs F c t m u j) j u) f ok (omega arith) (ap (step F c t) y ∙ cs) (crit_bump c m u (runs F c t m u j) j cr) mk b z)
    where
      j : ℕ
      j = F.table m t

      cs : step F c t (state m q h u) ≡ state m m h (one_more (runs F c t m u j) j u)
      cs = crit_step F W c t m q h u j refl cr

      go : (fault_at F c t (state m q h u) ≡ found f) ⊎ (scan F c k (suc t) (step F c t (state m q h u)) ≡ found f)
          → (scan F c k (suc t) (state m m h (one_more (runs F c t m u j) j u)) ≡ found f → Shown F f) → Shown F f
      go (inl z) rec = fault_real c t m q h u f ok (omega arith) y b z
      go (inr z) rec = rec (subst (λ (s : State). scan F c k (suc t) s ≡ found f) cs z)

  switch_found : (rest : ℕ → (ℕ → ℕ) → ℕ → State → Finding) (k : ℕ) (c : ℕ → ℕ) (t : ℕ) (s : State) (j : ℕ) (f : Fault) → switch_at F rest k c t s j ≡ found f
      → (m' : ℕ) × T (runs F c t s.mode s.had j) × (suc (units_of s.had j) ≡ F.budget j s.mode) × (next_mode F j s.mode ≡ some m')
      × (rest k (needs_after F c (one_more true j s.had) j m') (suc t) (state m' s.mode (t ∷ s.chain) (one_more true j s.had)) ≡ found f)
  unfolding switch_at try_switch reaches_budget
  switch_found rest k c t s j f x = go (reaches_budget F c t s j) (next_mode F j s.mode) refl refl x
    where
      go : (b : Bool) (o : Option ℕ) → reaches_budget F c t s j ≡ b → next_mode F j s.mode ≡ o → try_switch F rest k c t s j b o ≡ found f
          → (m' : ℕ) × T (runs F c t s.mode s.had j) × (suc (units_of s.had j) ≡ F.budget j s.mode) × (next_mode F j s.mode ≡ some m')
          × (rest k (needs_after F c (one_more true j s.had) j m') (suc t) (state m' s.mode (t ∷ s.chain) (one_more true j s.had)) ≡ found f)
      go false o p q z = let z' : ◌≡◌ {A = ℕ} 0 1 = cc in absurd (omega arith)
      go true none p q z = let z' : ◌≡◌ {A = ℕ} 0 1 = cc in absurd (omega arith)
      go true (some m') p q z =
          let a : T (runs F c t s.mode s.had j && eqb (suc (units_of s.had j)) (F.budget j s.mode)) = of_true p in
          (m', search (and_l), search (and_r, eqb→eq), q, z)

  switches_real : (rest : ℕ → (ℕ → ℕ) → ℕ → State → Finding) → Honest rest → Honest (switches F rest)
  unfolding switches opening
  switches_real rest ih zero c t m q h u f ok l y cr mk b x = let z : ◌≡◌ {A = ℕ} 0 1 = cc in absurd (omega arith)
  switches_real rest ih (suc k) c t m q h u f ok l y cr mk b x =
      go (or_found (switch_at F rest k c t (state m q h u) (F.table m t)) _ f x)
      (λ z. switches_real rest ih k c (suc t) m m h (one_more (runs F c t m u j) j u) f ok (omega arith) (ap (step F c t) y ∙ cs) (crit_bump c m u (runs F c t m u j) j cr) mk b z)
    where
      j : ℕ
      j = F.table m t

      cs : step F c t (state m q h u) ≡ state m m h (one_more (runs F c t m u j) j u)
      cs = crit_step F W c t m q h u j refl cr

      go : (switch_at F rest k c t (state m q h u) j ≡ found f) ⊎ (switches F rest k c (suc t) (step F c t (state m q h u)) ≡ found f)
          → (switches F rest k c (suc t) (state m m h (one_more (runs F c t m u j) j u)) ≡ found f → Shown F f) → Shown F f
      go (inl z) rec =
          let a = switch_found rest k c t (state m q h u) j f z in
          let nx = next_mode_lem F W j m a.0 (runs_job F W c t m u j a.1) mk a.3 in
          ih k (needs_after F c (one_more true j u) j a.0) (suc t) a.0 m (t ∷ h) (one_more true j u) f
          (switch_valid c t m q h u j a.0 refl a.1 a.2 a.3 cr mk ok) (omega arith)
          (switch_run c t m q h u j a.0 refl a.1 a.2 a.3 cr mk y)
          (switch_crit c t m q h u j a.0 refl a.1 a.2 a.3 cr mk) nx.2
          (switched_at t m q a.0 u b y nx.1 nx.2) a.4
      go (inr z) rec = rec (subst (λ (s : State). switches F rest k c (suc t) s ≡ found f) cs z)

  search_real : (n : ℕ) → Honest (search_from F n)
  unfolding search_from
  search_real zero k c t m q h u f ok l y cr mk b x = let z : ◌≡◌ {A = ℕ} 0 1 = cc in absurd (omega arith)
  search_real (suc n) k c t m q h u f ok l y cr mk b x =
      ⊎_elim (λ z. scan_real k c t m q h u f ok l y cr mk b z) (λ z. switches_real (search_from F n) (search_real n) k c t m q h u f ok l y cr mk b z)
      (or_found (scan F c k t (state m q h u)) _ f x)

  pub shown : (f : Fault) → first_fault F ≡ found f → Shown F f
  unfolding first_fault opening
  shown f x =
      search_real F.K F.L (λ j. F.budget j 0) 0 0 0 [] (replicate F.n 0) f
      (λ i a. (W.budget_one i a, W.budget_up i 0 (F.level i) a (omega arith) (W.level_below i a))) (omega arith) refl (λ i a b. refl) W.modes at_first x

  pub sound : (f : Fault) → first_fault F ≡ found f → Real F f
  sound f x = (shown f x).real
