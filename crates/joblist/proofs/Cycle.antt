-- The test for a cycle finds one exactly where there is one: a closed chain of edges.
-- Assumes nothing.
use Prim.Native.Nat.{ℕ, zero, suc, ◌≤◌, ◌<◌}
use mathlib.Core.Path.{◌≡◌, refl, sym, ap, ◌∙◌}
use mathlib.Core.Logic.{◌↔◌}
use mathlib.Core.List.{List}
use mathlib.Core.Bool.{Bool, true, ◌&&◌}
use native.Mathlib.Omega.{arith}
use native.Mathlib.Decide.{ℕ_discrete}
use borrow.Author.Tests.{eqb-true, eq-eqb}
use lib.Dec.{eqb}
use Rattle.basics.proofs.Below.{Found, any_hit, any_found}
use Rattle.basics.proofs.Tests.{and_left, and_right, and_both}
use Rattle.joblist.specs.Fields.{edge_from, edge_to}
use Rattle.joblist.specs.Cycle.{reached, walk, cyclic, Edge, Leads, one, more, Closed, Named}
use Rattle.joblist.proofs.Pigeons.{pigeons}

-- a closed chain has chains of any length
module _ (s : List ℕ) (n m : ℕ) where
  step : (f : ℕ → Bool) (p q : ℕ) → Edge s n m p q → f p ≡ true → reached s n m f q ≡ true
  step f p q d h =
      any_hit _ m d.e d.within (and_both _ _ (eq-eqb _ _ d.ends) (ap f d.begins ∙ h))

  around : (j : ℕ) → Leads s n m j j → (k x : ℕ) → Leads s n m j x → walk s n m k x ≡ true
  unfolding walk
  around j l zero x w = refl
  around j l (suc k) x (one d) = step (walk s n m k) j x d (around j l k j l)
  around j l (suc k) x (more {q = q} w d) = step (walk s n m k) q x d (around j l k q w)

  cycle_found : Named s n m → Closed s n m → cyclic s n m ≡ true
  unfolding cyclic
  cycle_found named c =
      any_hit (walk s n m n) n c.job (at_end c.around) (around c.job c.around n c.job c.around)
    where
      at_end : {p q : ℕ} → Leads s n m p q → q < n
      at_end (one d) = rw (← d.ends) (named d.e d.within).1
      at_end (more w d) = rw (← d.ends) (named d.e d.within).1

-- a chain of as many edges as there are jobs comes to a job twice
module _ (s : List ℕ) (n m : ℕ) (named : Named s n m) where
  -- the jobs of a chain of k edges to j, from its end: v 0 is j
  record Jobs (k j : ℕ) : Type 0 where
    v : ℕ → ℕ
    end : v 0 ≡ j
    edge : (i : ℕ) → i < k → Edge s n m (v (suc i)) (v i)

  cons : ℕ → (ℕ → ℕ) → ℕ → ℕ
  cons j v zero = j
  cons j v (suc i) = v i

  jobs_of_lem : (k j : ℕ) → walk s n m k j ≡ true → Jobs k j
  unfolding walk cons
  jobs_of_lem zero j h = record { v = λ i. j; end = refl; edge = λ i l. absurd (omega arith) }
  jobs_of_lem (suc k) j h = go (any_found _ m h) (λ i g. jobs_of_lem k i g)
    where
      go : Found (λ e. eqb (edge_to s n e) j && walk s n m k (edge_from s n e)) m → ((i : ℕ) → walk s n m k i ≡ true → Jobs k i) → Jobs (suc k) j
      go f r = record { v = cons j rest.v; end = refl; edge = edges }
        where
          rest : Jobs k (edge_from s n f.at)
          rest = r (edge_from s n f.at) (and_right (eqb (edge_to s n f.at) j) _ f.holds)

          edges : (i : ℕ) → i < suc k → Edge s n m (cons j rest.v (suc i)) (cons j rest.v i)
          edges zero l = record { e = f.at; within = f.below; begins = sym rest.end; ends = eqb-true _ _ (and_left _ (walk s n m k (edge_from s n f.at)) f.holds) }
          edges (suc i) l = rest.edge i (omega arith)

  first : {p q r : ℕ} → Edge s n m p q → Leads s n m q r → Leads s n m p r
  first d (one e) = more (one d) e
  first d (more w e) = more (first d w) e

  leads : (v : ℕ → ℕ) (k : ℕ) → ((i : ℕ) → i < k → Edge s n m (v (suc i)) (v i)) → (i : ℕ) → i < k → Leads s n m (v k) (v i)
  leads v zero edge i l = absurd (omega arith)
  leads v (suc k) edge i l = go (ℕ_discrete i k) (λ h. leads v k (λ x g. edge x (omega arith)) i h)
    where
      go : Dec (i ≡ k) → (i < k → Leads s n m (v k) (v i)) → Leads s n m (v (suc k)) (v i)
      go (yes p) r = rw p (one (edge k (omega arith)))
      go (no p) r = first (edge k (omega arith)) (r (omega arith))

  -- every job of a chain but the last is the start of an edge
  small : (k j : ℕ) (w : Jobs k j) → j < n → (i : ℕ) → i ≤ k → w.v i < n
  small k j w h zero l = rw w.end h
  small k j w h (suc i) l = let d = w.edge i l in rw (← d.begins) (named d.e d.within).0

  cycle_real : cyclic s n m ≡ true → Closed s n m
  unfolding cyclic
  cycle_real h = go (any_found (walk s n m n) n h)
    where
      go : Found (walk s n m n) n → Closed s n m
      go f =
          let w = jobs_of_lem n f.at f.holds in
          let t = pigeons n w.v (small n f.at w f.below) in
          record {
            job = w.v t.i;
            around = rw (← t.same) at (leads w.v t.k (λ x g. w.edge x (omega arith)) t.i t.before);
          }

-- the computed test is true exactly where a closed chain of edges exists
pub cycle_iff : (s : List ℕ) (n m : ℕ) → Named s n m → (cyclic s n m ≡ true) ↔ Closed s n m
cycle_iff s n m named = (cycle_real s n m named, cycle_found s n m named)
