-- A cycle: the test that the check makes, and what it means, a closed chain of edges.
-- Assumes nothing.
use Rattle.std.specs.Prelude.{ℕ, zero, suc, ◌<◌, ◌≡◌, Bool, true, ◌&&◌, List, eqb}
use Rattle.basics.specs.Below.{any_below}
use Rattle.joblist.specs.Fields.{edge_from, edge_to}

-- whether an edge comes to j from one of the jobs `of`
abbrev pub reached : List ℕ → ℕ → ℕ → (ℕ → Bool) → ℕ → Bool
reached s n m of j = any_below (λ e. eqb (edge_to s n e) j && of (edge_from s n e)) m

-- whether a chain of k edges ends at job j
unfoldable pub walk : List ℕ → ℕ → ℕ → ℕ → ℕ → Bool
walk s n m zero j = true
walk s n m (suc k) j = reached s n m (walk s n m k) j

-- the m edges form a cycle where a chain has as many edges as there are jobs
unfoldable pub cyclic : List ℕ → ℕ → ℕ → Bool
cyclic s n m = any_below (walk s n m n) n

-- one of the m edges goes from p to q
pub record Edge (s : List ℕ) (n m p q : ℕ) : Type 0 where
  pub e : ℕ
  pub within : e < m
  pub begins : edge_from s n e ≡ p
  pub ends : edge_to s n e ≡ q

-- edges lead from p to q: one, or more
pub data Leads (s : List ℕ) (n m : ℕ) : ℕ → ℕ → Type 0 where
  one : {p q : ℕ} → Edge s n m p q → Leads s n m p q
  more : {p q r : ℕ} → Leads s n m p q → Edge s n m q r → Leads s n m p r

-- a closed chain: edges lead from a job back to it
pub record Closed (s : List ℕ) (n m : ℕ) : Type 0 where
  pub job : ℕ
  pub around : Leads s n m job job

-- each of the m edges goes from a job to a job
abbrev pub Named : List ℕ → ℕ → ℕ → Type 0
Named s n m = (e : ℕ) → e < m → (edge_from s n e < n) × (edge_to s n e < n)
