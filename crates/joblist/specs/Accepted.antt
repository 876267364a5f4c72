-- What an accepted list says: of each job, of each edge, and of the whole.
-- Assumes nothing.
use Rattle.std.specs.Prelude.{ℕ, ◌≤◌, ◌<◌, ◌≡◌, true, false, List, length}
use Rattle.basics.specs.Limits.{Limits}
use Rattle.joblist.specs.Fields.{list_bytes, jobs, edges, slots, arrival, deadline, ordinary, high, level, edge_from, edge_to}
use Rattle.joblist.specs.Answer.{largest, rising}
use Rattle.joblist.specs.Cycle.{cyclic}

-- job j
pub record Job (lim : Limits) (s : List ℕ) (j : ℕ) : Type 0 where
  pub known : level s j ≤ 1
  pub window : arrival s j < deadline s j
  pub end : deadline s j ≤ lim.slots
  pub one : 1 ≤ ordinary s j
  pub rising : ordinary s j ≤ high s j
  pub most : high s j ≤ lim.budget
  pub equal : level s j ≡ 0 → ordinary s j ≡ high s j

-- edge e, after n jobs
pub record GoodEdge (s : List ℕ) (n e : ℕ) : Type 0 where
  pub from : edge_from s n e < n
  pub to : edge_to s n e < n
  pub other : ¬ (edge_from s n e ≡ edge_to s n e)
  pub later : rising s n e ≡ true
  pub down : level s (edge_to s n e) ≤ level s (edge_from s n e)

-- the list, whole at the front of the bytes
pub record Accepted (lim : Limits) (s : List ℕ) : Type 0 where
  pub fits : list_bytes (jobs s) (edges s) ≤ length s
  pub one_job : 1 ≤ jobs s
  pub most_jobs : jobs s ≤ lim.jobs
  pub most_edges : edges s ≤ lim.edges
  pub one_slot : 1 ≤ slots s
  pub most_slots : slots s ≤ lim.slots
  pub job : (j : ℕ) → j < jobs s → Job lim s j
  pub longest : slots s ≡ largest s (jobs s)
  pub edge : (e : ℕ) → e < edges s → GoodEdge s (jobs s) e
  pub no_cycle : cyclic s (jobs s) (edges s) ≡ false
