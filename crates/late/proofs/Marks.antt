-- Marks, one for each job, set by one pass over the edges.
-- Assumes nothing.
use Prim.Native.Nat.{ℕ, zero, suc, ◌+◌, ◌<◌}
use mathlib.Core.Path.{◌≡◌, refl, sym, ap, ◌∙◌}
use mathlib.Core.List.{List}
use mathlib.Core.Bool.{Bool, true, false, ◌&&◌, ◌||◌, and-false}
use native.Mathlib.Omega.{arith}
use native.Mathlib.Decide.{ℕ_discrete}
use borrow.Author.Tests.{eq-eqb, ne_eqb}
use lib.ListN.{length, get_or, set, replicate, length-set}
use lib.Seq.{get_or-set_same, get_or-set_other}
use lib.Dec.{eqb}
use Rattle.basics.specs.Below.{any_below}
use Rattle.basics.proofs.Below.{any_zero, any_step, any_same}
use Rattle.std.proofs.Math.Bool.{and_comm}
use Rattle.joblist.specs.Fields.{jobs, edges, edge_from, edge_to, edge_in}
use Rattle.joblist.specs.Cycle.{reached}
use Rattle.late.specs.Table.{marked}

-- job j is marked where one of the first e edges marks it: edge i marks it where f i j
pub record Marks (f : ℕ → ℕ → Bool) (r : List Bool) (e : ℕ) : Type 0 where
  pub long : length r ≡ 64
  pub same : (j : ℕ) → marked r j ≡ any_below (λ i. f i j) e

-- a list of one value only, read anywhere
pub all_alike : {A : Type 0} (k j : ℕ) (a : A) → get_or (replicate k a) j a ≡ a
all_alike zero j a = refl
all_alike (suc k) zero a = refl
all_alike (suc k) (suc j) a = all_alike k j a

module _ (f : ℕ → ℕ → Bool) where
  pub marks_none : Marks f (replicate 64 false) 0
  marks_none = record { long = refl; same = λ j. all_alike 64 j false ∙ sym (any_zero (λ i. f i j)) }

  module _ (r : List Bool) (e : ℕ) (m : Marks f r e) where
    step : (j : ℕ) (b : Bool) → f e j ≡ b → any_below (λ i. f i j) (e + 1) ≡ (b || any_below (λ i. f i j) e)
    step j b p = any_step (λ i. f i j) e ∙ ap (λ x. x || any_below (λ i. f i j) e) p

    -- an edge that marks no job
    pub marks_skip : ((j : ℕ) → f e j ≡ false) → Marks f r (e + 1)
    marks_skip h = record { long = m.long; same = λ j. m.same j ∙ sym (step j false (h j)) }

    -- an edge that marks job q alone
    pub marks_one : (q : ℕ) → q < 64 → f e q ≡ true → ((j : ℕ) → ¬ (j ≡ q) → f e j ≡ false) → Marks f (set r q true) (e + 1)
    marks_one q l this others = record { long = length-set r q true ∙ m.long; same = λ j. go j (ℕ_discrete j q) }
      where
        go : (j : ℕ) → Dec (j ≡ q) → marked (set r q true) j ≡ any_below (λ i. f i j) (e + 1)
        go j (yes p) =
            ap (marked (set r q true)) p ∙ get_or-set_same r q true false (let h = m.long in omega arith) ∙ sym (step j true (ap (f e) p ∙ this))
        go j (no p) = get_or-set_other r q j true false p ∙ m.same j ∙ sym (step j false (others j p))

-- edge e comes to job j from a job that passes
abbrev pub comes : List ℕ → (ℕ → Bool) → ℕ → ℕ → Bool
comes s test e j = eqb (edge_to s (jobs s) e) j && test (edge_from s (jobs s) e)

module _ (s : List ℕ) (test : ℕ → Bool) (r : List Bool) (e : ℕ) (m : Marks (comes s test) r e) where
  pub comes_yes : edge_to s (jobs s) e < 64 → test (edge_from s (jobs s) e) ≡ true → Marks (comes s test) (set r (edge_to s (jobs s) e) true) (e + 1)
  comes_yes l p =
      marks_one (comes s test) r e m (edge_to s (jobs s) e) l (rw (eq-eqb (edge_to s (jobs s) e) (edge_to s (jobs s) e) refl, p))
      (λ j q. rw (ne_eqb (edge_to s (jobs s) e) j (λ h. q (sym h))))

  pub comes_no : test (edge_from s (jobs s) e) ≡ false → Marks (comes s test) r (e + 1)
  comes_no p = marks_skip (comes s test) r e m (λ j. rw p (and-false (eqb (edge_to s (jobs s) e) j)))

-- where the test is to be job j, these are its successors
pub comes_next : (s : List ℕ) (j q : ℕ) → reached s (jobs s) (edges s) (λ p. eqb p j) q ≡ edge_in s (jobs s) (edges s) j q
unfolding edge_in
comes_next s j q =
    any_same _ _ (edges s) (λ e h. and_comm (eqb (edge_to s (jobs s) e) q) (eqb (edge_from s (jobs s) e) j))

-- marks set one job after the other
pub record Filled (f : ℕ → Bool) (r : List Bool) (k : ℕ) : Type 0 where
  pub long : length r ≡ 64
  pub same : (j : ℕ) → j < k → marked r j ≡ f j

module _ (f : ℕ → Bool) where
  pub filled_none : Filled f (replicate 64 false) 0
  filled_none = record { long = refl; same = λ j l. absurd (omega arith) }

  pub filled_next : (r : List Bool) (k : ℕ) (b : Bool) → Filled f r k → k < 64 → b ≡ f k → Filled f (set r k b) (k + 1)
  filled_next r k b m l e = record { long = length-set r k b ∙ m.long; same = λ j h. go j h (ℕ_discrete j k) }
    where
      go : (j : ℕ) → j < k + 1 → Dec (j ≡ k) → marked (set r k b) j ≡ f j
      go j h (yes p) = ap (marked (set r k b)) p ∙ get_or-set_same r k b false (let q = m.long in omega arith) ∙ e ∙ sym (ap f p)
      go j h (no p) = get_or-set_other r k j b false p ∙ m.same j (omega arith)
