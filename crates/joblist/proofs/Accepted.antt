-- A list that gets yes is accepted: what follows from that answer.
-- Assumes nothing.
use Prim.Native.Nat.{ℕ, zero, suc, ◌≤◌, ◌<◌, max}
use mathlib.Core.Path.{◌≡◌, ap}
use mathlib.Core.List.{List}
use mathlib.Core.Bool.{true, not}
use native.Mathlib.Omega.{arith}
use native.Mathlib.Decide.{ℕ_discrete}
use borrow.Author.Tests.{eqb-true, not-true}
use lib.ListN.{length}
use lib.Dec.{leb, eqb}
use Rattle.basics.specs.Limits.{Limits}
use Rattle.joblist.specs.Fields.{head_bytes, list_bytes, head_zero, jobs, edges, slots, deadline, high, level, edge_in}
use Rattle.joblist.specs.Cycle.{cyclic, Edge, Named}
use Rattle.basics.specs.Chain.{need, each}
use Rattle.joblist.specs.Answer.{counts_answer, zero_answer, job_answer, edge_answer, body_answer, front_answer, list_answer, largest}
use Rattle.joblist.specs.Accepted.{Accepted}
use Rattle.std.specs.Prelude.{Ok}
use Rattle.joblist.specs.declared.Why.TheVariants.{Short, Slots, Cycle}
use Rattle.basics.proofs.Chain.{both_good, need_good, row_good, each_good}
use Rattle.joblist.proofs.Rows.{counts_good, job_good, edge_good}
use Rattle.joblist.proofs.Edges.{edge_of}

module _ (lim : Limits) (s : List ℕ) where
  -- a list at the front of the bytes, where the counts give `whole` bytes
  pub front_counts : (chi : ℕ → ℕ) (whole : ℕ) → front_answer lim chi s whole ≡ Ok tt → length s ≡ whole
  unfolding front_answer
  front_counts chi whole h = (counts_good lim _ _ _ _ _ _ (both_good _ _ h).0).given

  pub front_accepted : (whole : ℕ) → list_bytes (jobs s) (edges s) ≤ whole → front_answer lim (high s) s whole ≡ Ok tt → Accepted lim s
  unfolding front_answer body_answer
  front_accepted whole fits h =
      let a = both_good (counts_answer lim (length s) whole (jobs s) (edges s) (slots s) (head_zero s)) (body_answer lim (high s) s (jobs s) (edges s)) h in
      let c = counts_good lim _ _ _ _ _ _ a.0 in
      let z = both_good (each (jobs s) (zero_answer s)) _ a.1 in
      let j = both_good (each (jobs s) (job_answer lim (high s) s)) _ z.1 in
      let l = row_good (eqb (slots s) (largest s (jobs s))) Slots _ j.1 in
      let e = both_good (each (edges s) (edge_answer s (jobs s))) (need (not (cyclic s (jobs s) (edges s))) Cycle) l.1 in
      record {
        fits = omega (arith, c.given);
        one_job = c.one_job;
        most_jobs = c.most_jobs;
        most_edges = c.most_edges;
        one_slot = c.one_slot;
        most_slots = c.most_slots;
        job = λ i k. job_good lim s i (each_good _ _ j.0 i k);
        longest = eqb-true _ _ l.0;
        edge = λ i k. edge_good s _ i (each_good _ _ e.0 i k);
        no_cycle = not-true _ (need_good _ _ e.1);
      }

  -- the whole list
  after_head : list_answer lim s ≡ Ok tt → front_answer lim (high s) s (list_bytes (jobs s) (edges s)) ≡ Ok tt
  unfolding list_answer
  after_head h = (row_good (leb head_bytes (length s)) Short _ h).1

  pub accepted : list_answer lim s ≡ Ok tt → Accepted lim s
  accepted h = front_accepted _ (omega arith) (after_head h)

  pub list_length : list_answer lim s ≡ Ok tt → length s ≡ list_bytes (jobs s) (edges s)
  list_length h = front_counts (high s) _ (after_head h)

-- no deadline is past the largest
pub largest_most : (s : List ℕ) (n j : ℕ) → j < n → deadline s j ≤ largest s n
unfolding largest
largest_most s zero j h = absurd (omega arith)
largest_most s (suc n) j h = go (ℕ_discrete j n) (λ k. largest_most s n j k)
  where
    go : Dec (j ≡ n) → (j < n → deadline s j ≤ largest s n) → deadline s j ≤ max (largest s n) (deadline s n)
    go (yes p) r = let e = ap (deadline s) p in omega arith
    go (no p) r = let k = r (omega arith) in omega arith

module _ (lim : Limits) (s : List ℕ) (A : Accepted lim s) where
  pub deadline_in_frame : (j : ℕ) → j < jobs s → deadline s j ≤ slots s
  deadline_in_frame j h = let a = largest_most s (jobs s) j h in let b = A.longest in omega arith

  pub accepted_named : Named s (jobs s) (edges s)
  accepted_named e h = ((A.edge e h).from, (A.edge e h).to)

  -- an edge goes from a job to a job, and not from low to high
  pub edge_jobs : (p q : ℕ) → edge_in s (jobs s) (edges s) p q ≡ true → (p < jobs s) × (q < jobs s) × (level s q ≤ level s p)
  edge_jobs p q h = go (edge_of s (jobs s) (edges s) p q h)
    where
      go : Edge s (jobs s) (edges s) p q → (p < jobs s) × (q < jobs s) × (level s q ≤ level s p)
      go d =
          let g = A.edge d.e d.within in
          (rw (← d.begins) g.from, rw (← d.ends) g.to, rw (← d.begins, ← d.ends) g.down)
