-- Opening: the bytes of a plan that the reader accepts, to a fresh state.
-- Assumes nothing.
use Rattle.std.specs.Prelude.{◌≡◌, ℕ, zero, suc, Result, Ok, Err, ◌+◌, ◌*◌, List, ◌++◌, get_or, set, replicate}
use Rattle.basics.specs.Bytes.{u16_at}
use Rattle.basics.specs.Limits.{Limits}
use Rattle.joblist.specs.Fields.{head_bytes, jobs, edges, slots, job_at, arrival, deadline, ordinary, high, level}
use Rattle.planfile.specs.Plan.{list_of, low_of, high_of}
use Rattle.planfile.specs.Answer.{read_of}
use Rattle.planfile.specs.declared.ReadWhy.{ReadWhy}
use Rattle.planfile.specs.declared.Shape.{Shape}
use Rattle.parts.specs.declared.plan.Plan.{Plan}
use Rattle.parts.specs.Plan.{plan_with, arrival_of, deadline_of, clo_of, chi_of, level_of}
use Rattle.dispatch.specs.declared.state.State.{State}
use Rattle.dispatch.specs.declared.open.Opened.{Opened}
use Rattle.dispatch.specs.State.{fresh_of, no_state}

-- room for k entries: f 0 to f (n - 1), then zeros
unfoldable pub entries : ℕ → (ℕ → ℕ) → ℕ → List ℕ
entries k f zero = replicate k 0
entries k f (suc n) = set (entries k f n) n (f n)

-- the numbers of n jobs: a, d, CLO, CHI and the level with its zero byte, 16 bits each, from the head's end on
unfoldable pub jobs_of : Limits → List ℕ → ℕ → List ℕ
jobs_of lim list n = entries (5 * lim.jobs) (λ i. u16_at list (head_bytes + 2 * i)) (5 * n)

-- the ends of m edges, from the end of n jobs on
unfoldable pub edges_of : Limits → List ℕ → ℕ → ℕ → List ℕ
edges_of lim list n m = entries (2 * lim.edges) (λ i. get_or list (job_at n + i) 0) (2 * m)

-- table LO, then table HI, n slots of each, each in room for the most slots
unfoldable pub tables_of : Limits → List ℕ → List ℕ → ℕ → List ℕ
tables_of lim lo hi n = entries lim.slots (λ t. get_or lo t 0) n ++ entries lim.slots (λ t. get_or hi t 0) n

-- what that gives of job j of an accepted list: the list's own fields
pub record JobFields (lim : Limits) (list : List ℕ) (j : ℕ) : Type 0 where
  pub arrival : arrival_of (jobs_of lim list (jobs list)) j ≡ arrival list j
  pub deadline : deadline_of (jobs_of lim list (jobs list)) j ≡ deadline list j
  pub clo : clo_of (jobs_of lim list (jobs list)) j ≡ ordinary list j
  pub chi : chi_of (jobs_of lim list (jobs list)) j ≡ high list j
  pub level : level_of (jobs_of lim list (jobs list)) j ≡ level list j

-- a plan's fields, from its list and its tables
unfoldable pub fields_of : Limits → List ℕ → List ℕ → List ℕ → Plan
fields_of lim list lo hi =
    plan_with (record { len = slots list; n = jobs list; m = edges list })
    (jobs_of lim list (jobs list)) (edges_of lim list (jobs list) (edges list)) (tables_of lim lo hi (slots list))

-- the state that opening leaves: fresh, or all zero where the plan is refused
abbrev pub opened_of : Limits → Result Shape ReadWhy → List ℕ → ℕ → State
opened_of lim (Ok shape) s first = fresh_of lim (fields_of lim (list_of s) (low_of s) (high_of s)) first
opened_of lim (Err w) s first = no_state lim

unfoldable pub open_of : Limits → List ℕ → ℕ → Opened
open_of lim s first = record { answer = read_of lim s; state = opened_of lim (read_of lim s) s first }
