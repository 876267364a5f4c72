-- A frame is well formed where a test that computes says so.
-- Assumes nothing.
use mathlib.Core.Bool.{Bool, ◌&&◌, ◌||◌, false, not, true}
use Prim.Native.Nat.{◌<◌, ℕ}
use native.Mathlib.Omega.{arith}
use lib.Dec.{T, eqb, eqb→eq, leb, leb→le, ltb, ltb→lt}
use Rattle.basics.proofs.Below.{all_at}
use Rattle.basics.proofs.Tests.{and_l, and_r, of_true, or_not, truth}
use Rattle.basics.specs.Below.{all_below}
use Rattle.frame.specs.Jobs.{Frame, WellFormed}

T-at : (f : ℕ → Bool) (n i : ℕ) → T (all_below f n) → i < n → T (f i)
T-at f n i t l = of_true (all_at f n i (truth (all_below f n) t) l)

module _ (F : Frame) where
  abbrev pub job_test : ℕ → Bool
  job_test j =
      leb 1 (F.budget j 0) && (ltb (F.level j) F.K
      && (all_below (λ (m : ℕ). all_below (λ (x : ℕ). ltb x m || leb (F.budget j m) (F.budget j x)) F.K) F.K
      && all_below (λ (m : ℕ). ltb m (F.level j) || eqb (F.budget j m) (F.budget j (F.level j))) F.K))

  abbrev pub edge_test : ℕ → Bool
  edge_test p = all_below (λ (s : ℕ). not (F.edge p s) || leb (F.level s) (F.level p)) F.n

  pub well : T (ltb 0 F.K) → T (all_below job_test F.n) → T (all_below edge_test F.n) → WellFormed F
  well k js es = record {
    modes = ltb→lt 0 F.K k;
    budget_one = λ j a. let t = T-at job_test F.n j js a in search (and_l, leb→le);
    budget_up = λ j m m' a b c.
        let t = T-at job_test F.n j js a in
        let t' : T (all_below (λ (m : ℕ). all_below (λ (x : ℕ). ltb x m || leb (F.budget j m) (F.budget j x)) F.K) F.K) = search (and_l, and_r) in
        let u = T-at (λ (x : ℕ). ltb x m || leb (F.budget j m) (F.budget j x)) F.K m' (T-at (λ (m : ℕ). all_below (λ (x : ℕ). ltb x m || leb (F.budget j m) (F.budget j x)) F.K) F.K m t' (omega arith)) c in
        leb→le (F.budget j m) (F.budget j m') (or_not (ltb m' m) _ u (λ z. let z' = ltb→lt m' m z in omega arith));
    budget_top = λ j m a b c.
        let t = T-at job_test F.n j js a in
        let t' : T (all_below (λ (m : ℕ). ltb m (F.level j) || eqb (F.budget j m) (F.budget j (F.level j))) F.K) = search (and_l, and_r) in
        let u = T-at (λ (m : ℕ). ltb m (F.level j) || eqb (F.budget j m) (F.budget j (F.level j))) F.K m t' c in
        eqb→eq (F.budget j m) (F.budget j (F.level j)) (or_not (ltb m (F.level j)) _ u (λ z. let z' = ltb→lt m (F.level j) z in omega arith));
    level_below = λ j a. let t = T-at job_test F.n j js a in search (and_l, and_r, ltb→lt);
    edge_down = λ p s a b e.
        let u = T-at (λ (s : ℕ). not (F.edge p s) || leb (F.level s) (F.level p)) F.n s (T-at edge_test F.n p es a) b in
        leb→le (F.level s) (F.level p) (or_not (not (F.edge p s)) _ u (λ z. cut (F.edge p s) e z));
  }
    where
      cut : (b : Bool) → T b → T (not b) → ⊥
      cut true x y = y
      cut false x y = x
