-- One slot of an execution: when a job runs, when it switches, and the two things a slot can make of a state.
-- Assumes nothing.
use mathlib.Core.Bool.{Bool, ◌&&◌, ◌||◌, false, true}
use mathlib.Core.List.{List, ◌∷◌}
use mathlib.Core.Option.{Option, none, some}
use mathlib.Core.Path.{◌∙◌, ◌≡◌, ap, refl}
use Prim.Native.Nat.{◌<◌, ◌≤◌, suc, ℕ}
use native.Mathlib.Omega.{arith}
use borrow.Author.Tests.{leb-false, leb-true}
use lib.Dec.{T, leb, leb→le, le→leb, ltb, ltb→lt, lt→ltb}
use Rattle.basics.proofs.Find.{find_has, find_some}
use Rattle.basics.proofs.Tests.{and_i, and_l, and_r, of_false, of_true, or_l}
use Rattle.basics.specs.Units.{one_more, units_of}
use Rattle.frame.specs.Execution.{Valid, next_mode, outran, ready, runs, slot_with, state, step, switch_to}
use Rattle.frame.specs.Jobs.{Frame, WellFormed}

module _ (F : Frame) (W : WellFormed F) where
  -- the mode that a job switches to is higher, and is one
  pub next_mode_lem : (j m m' : ℕ) → j < F.n → m < F.K → next_mode F j m ≡ some m' → (F.budget j m < F.budget j m') × (m < m') × (m' < F.K)
  unfolding next_mode
  next_mode_lem j m m' jn mk e =
      let r = find_some (λ (x : ℕ). ltb (F.budget j m) (F.budget j x)) F.K 0 m' e in
      let l = ltb→lt (F.budget j m) (F.budget j m') r.0 in
      (l, up (leb m' m) refl l, omega arith)
    where
      up : (b : Bool) → leb m' m ≡ b → F.budget j m < F.budget j m' → m < m'
      up true e l = let h = W.budget_up j m' m jn (leb-true m' m e) mk in absurd (omega arith)
      up false e l = leb-false m' m e

  module _ (e : ℕ → ℕ) where
    pub runs_job : (t m : ℕ) (u : List ℕ) (j : ℕ) → T (runs F e t m u j) → j < F.n
    unfolding runs
    runs_job t m u j r = ltb→lt j F.n (and_l (ltb j F.n) (ltb (units_of u j) (e j) && (leb m (F.level j) || ready F e t u j)) r)

    pub runs_unfinished : (t m : ℕ) (u : List ℕ) (j : ℕ) → T (runs F e t m u j) → units_of u j < e j
    unfolding runs
    runs_unfinished t m u j r =
        ltb→lt (units_of u j) (e j) (and_l (ltb (units_of u j) (e j)) (leb m (F.level j) || ready F e t u j) (and_r (ltb j F.n) (ltb (units_of u j) (e j) && (leb m (F.level j) || ready F e t u j)) r))

    pub runs_owed : (t m : ℕ) (u : List ℕ) (j : ℕ) → j < F.n → units_of u j < e j → m ≤ F.level j → T (runs F e t m u j)
    unfolding runs
    runs_owed t m u j a b c =
        search (and_i, or_l, lt→ltb, le→leb)

    pub outran_i : (m u j : ℕ) → u < e j → F.budget j m ≤ u → T (outran F e m u j)
    unfolding outran
    outran_i m u j a b = search (and_i, lt→ltb, le→leb)

    pub outran_e : (m u j : ℕ) → T (outran F e m u j) → (u < e j) × (F.budget j m ≤ u)
    unfolding outran
    outran_e m u j t = (search (and_l, ltb→lt), search (and_l, and_r, leb→le))

    -- a valid demand that is over its budget for the mode has a mode to switch to, and is owed in it
    pub next_has : Valid F e → (j m u : ℕ) → j < F.n → m < F.K → u < e j → F.budget j m ≤ u → (m < F.level j) × ((m' : ℕ) × (next_mode F j m ≡ some m'))
    unfolding next_mode
    next_has ok j m u jn mk a b =
        let v = ok j jn in
        (up (leb (F.level j) m) refl v, find_has (λ (x : ℕ). ltb (F.budget j m) (F.budget j x)) F.K (F.level j) (lt→ltb (F.budget j m) (F.budget j (F.level j)) (omega arith)) (W.level_below j jn))
      where
        up : (x : Bool) → leb (F.level j) m ≡ x → (1 ≤ e j) × (e j ≤ F.budget j (F.level j)) → m < F.level j
        up true q v = let h = W.budget_top j m jn (leb-true (F.level j) m q) mk in absurd (omega arith)
        up false q v = leb-false (F.level j) m q

    -- what a slot makes of a state
    pub data Slot (t m q : ℕ) (c : List ℕ) (u : List ℕ) (j : ℕ) : Type 0 where
      stays : (b : Bool) → runs F e t m u j ≡ b → ¬ (T b × T (outran F e m (suc (units_of u j)) j))
          → step F e t (state m q c u) ≡ state m m c (one_more b j u) → Slot t m q c u j
      goes : T (runs F e t m u j) → suc (units_of u j) < e j → F.budget j m ≤ suc (units_of u j) → (m' : ℕ) → next_mode F j m ≡ some m'
          → step F e t (state m q c u) ≡ state m' m (t ∷ c) (one_more true j u) → Slot t m q c u j

    pub slot_eq : (t m q : ℕ) (c : List ℕ) (u : List ℕ) (j : ℕ) (b o : Bool) (x : Option ℕ) → F.table m t ≡ j
        → runs F e t m u j ≡ b → outran F e m (suc (units_of u j)) j ≡ o → next_mode F j m ≡ x
        → step F e t (state m q c u) ≡ switch_to (b && o) t m x (one_more b j u) c
    unfolding step slot_with
    slot_eq t m q c u j b o x p₁ p₂ p₃ p₄ =
        ap (λ (k : ℕ). slot_with F e t (state m q c u) k (runs F e t m u k)) p₁ ∙ (λ i. switch_to (p₂ i && p₃ i) t m (p₄ i) (one_more (p₂ i) j u) c)

    pub slot_cases : Valid F e → (t m q : ℕ) (c : List ℕ) (u : List ℕ) (j : ℕ) → m < F.K → F.table m t ≡ j → Slot t m q c u j
    unfolding switch_to
    slot_cases ok t m q c u j mk p₁ = go (runs F e t m u j) (outran F e m (suc (units_of u j)) j) (next_mode F j m) refl refl refl
      where
        go : (b o : Bool) (x : Option ℕ) → runs F e t m u j ≡ b → outran F e m (suc (units_of u j)) j ≡ o → next_mode F j m ≡ x → Slot t m q c u j
        go false o x p₂ p₃ p₄ = stays false p₂ (λ z. z.0) (slot_eq t m q c u j false o x p₁ p₂ p₃ p₄)
        go true false x p₂ p₃ p₄ = stays true p₂ (λ z. of_false p₃ z.1) (slot_eq t m q c u j true false x p₁ p₂ p₃ p₄)
        go true true (some m') p₂ p₃ p₄ =
            let o = outran_e m (suc (units_of u j)) j (of_true p₃) in
            goes (of_true p₂) o.0 o.1 m' p₄ (slot_eq t m q c u j true true (some m') p₁ p₂ p₃ p₄)
        go true true none p₂ p₃ p₄ =
            let o = outran_e m (suc (units_of u j)) j (of_true p₃) in
            let h = (next_has ok j m (suc (units_of u j)) (runs_job t m u j (of_true p₂)) mk o.0 o.1).1 in
            let z : ◌≡◌ {A = ℕ} 0 1 = cc in absurd (omega arith)
