-- What each row of the chain says where its answer is yes.
-- Assumes nothing.
use Prim.Native.Nat.{ℕ, ◌≤◌}
use mathlib.Core.Path.{◌≡◌}
use mathlib.Core.List.{List}
use native.Mathlib.Omega.{arith}
use borrow.Author.Tests.{leb-true, eqb-true}
use Rattle.basics.specs.Limits.{Limits}
use Rattle.joblist.specs.Fields.{high}
use Rattle.joblist.specs.Cycle.{Named}
use Rattle.basics.specs.Chain.{each}
use Rattle.joblist.specs.Answer.{counts_answer, fields_answer, job_answer, edge_answer}
use Rattle.joblist.specs.Accepted.{Job, GoodEdge}
use Rattle.std.specs.Prelude.{Ok}
use Rattle.basics.proofs.Chain.{need_good, row_good, each_good}
use Rattle.joblist.proofs.Tested.{within_so, times_so, budgets_so, pair_so}

-- the counts
pub record Counts (lim : Limits) (len whole n m l z : ℕ) : Type 0 where
  pub one_job : 1 ≤ n
  pub most_jobs : n ≤ lim.jobs
  pub most_edges : m ≤ lim.edges
  pub one_slot : 1 ≤ l
  pub most_slots : l ≤ lim.slots
  pub given : len ≡ whole
  pub blank : z ≡ 0

pub counts_good : (lim : Limits) (len whole n m l z : ℕ) → counts_answer lim len whole n m l z ≡ Ok tt → Counts lim len whole n m l z
unfolding counts_answer
counts_good lim len whole n m l z h =
    let a = row_good _ _ _ h in
    let b = row_good _ _ _ a.1 in
    let c = row_good _ _ _ b.1 in
    let d = row_good _ _ _ c.1 in
    let i = within_so _ _ a.0 in
    let k = within_so _ _ c.0 in
    record {
      one_job = i.0;
      most_jobs = i.1;
      most_edges = leb-true _ _ b.0;
      one_slot = k.0;
      most_slots = k.1;
      given = eqb-true _ _ d.0;
      blank = eqb-true _ _ (need_good _ _ d.1);
    }

-- a job
pub job_good : (lim : Limits) (s : List ℕ) (j : ℕ) → job_answer lim (high s) s j ≡ Ok tt → Job lim s j
unfolding fields_answer
job_good lim s j h =
    let a = row_good _ _ _ h in
    let b = row_good _ _ _ a.1 in
    let t = times_so lim _ _ b.0 in
    let k = budgets_so lim _ _ _ (need_good _ _ b.1) in
    record {
      known = leb-true _ _ a.0;
      window = t.0;
      end = t.1;
      one = k.0;
      rising = k.1;
      most = k.2;
      equal = λ z. k.3 (λ y. omega arith);
    }

-- an edge
pub edge_good : (s : List ℕ) (n e : ℕ) → edge_answer s n e ≡ Ok tt → GoodEdge s n e
edge_good s n e h =
    let a = row_good _ _ _ h in
    let b = pair_so n _ _ _ a.0 in
    record { from = b.0; to = b.1; other = b.2; later = b.3; down = leb-true _ _ (need_good _ _ a.1) }

-- of a list whose edges are good, each edge goes from a job to a job
pub edges_named : (s : List ℕ) (n m : ℕ) → each m (edge_answer s n) ≡ Ok tt → Named s n m
edges_named s n m h e l = let g = edge_good s n e (each_good _ m h e l) in (g.from, g.to)
