-- A plan as a state holds it: five numbers a job, two ends an edge, and both tables.
-- Assumes nothing.
use Rattle.std.specs.Prelude.{ℕ, ◌+◌, ◌*◌, Bool, List, replicate, ◌==◌, slice_index}
use Rattle.basics.specs.Limits.{Limits}
use Rattle.parts.specs.declared.plan.Counts.{Counts}
use Rattle.parts.specs.declared.plan.Plan.{Plan}
use Rattle.parts.specs.declared.lent.PlanParts.{PlanParts}

-- number k of job j, in a plan's jobs
abbrev pub number_in : List ℕ → ℕ → ℕ → ℕ
number_in jobs j k = slice_index jobs (5 * j + k)

-- its a, d, CLO, CHI and level
abbrev pub arrival_of : List ℕ → ℕ → ℕ
arrival_of jobs j = number_in jobs j 0

abbrev pub deadline_of : List ℕ → ℕ → ℕ
deadline_of jobs j = number_in jobs j 1

abbrev pub clo_of : List ℕ → ℕ → ℕ
clo_of jobs j = number_in jobs j 2

abbrev pub chi_of : List ℕ → ℕ → ℕ
chi_of jobs j = number_in jobs j 3

abbrev pub level_of : List ℕ → ℕ → ℕ
level_of jobs j = number_in jobs j 4

-- job j is high
abbrev pub is_high : List ℕ → ℕ → Bool
is_high jobs j = level_of jobs j == 1

-- edge e goes from one job to another
abbrev pub from_of : List ℕ → ℕ → ℕ
from_of edges e = slice_index edges (2 * e)

abbrev pub to_of : List ℕ → ℕ → ℕ
to_of edges e = slice_index edges (2 * e + 1)

-- slot t of table LO, and of table HI, which stands after room for the most slots
abbrev pub lo_at : List ℕ → ℕ → ℕ
lo_at tables t = slice_index tables t

abbrev pub hi_at : Limits → List ℕ → ℕ → ℕ
hi_at lim tables t = slice_index tables (lim.slots + t)

-- a plan of its parts
abbrev pub plan_with : Counts → List ℕ → List ℕ → List ℕ → Plan
plan_with counts jobs edges tables = record { counts = counts; jobs = jobs; edges = edges; tables = tables }

-- the plan whose parts are lent
abbrev pub plan_of : PlanParts → Plan
plan_of p = plan_with p.counts p.jobs.now p.edges.now p.tables.now

-- all zero
unfoldable pub no_plan : Limits → Plan
no_plan lim =
    plan_with (record { len = 0; n = 0; m = 0 }) (replicate (5 * lim.jobs) 0) (replicate (2 * lim.edges) 0) (replicate (2 * lim.slots) 0)
