-- Tests on a state's parts: row 37 part by part, looking only below L, n and m; then those of booking and of the order.
-- Assumes nothing.
use Rattle.std.specs.Prelude.{ℕ, ◌+◌, ◌*◌, Bool, not, ◌&&◌, ◌||◌, ltb, leb, List, [], ◌∷◌, ◌==◌, nat_le, nat_lt, slice_index}
use Rattle.basics.specs.Choice.{pick}
use Rattle.basics.specs.Below.{all_below, all_of}
use Rattle.basics.specs.Limits.{Limits}
use Rattle.basics.specs.Marks.{idle}
use Rattle.parts.specs.Marks.{is_set}
use Rattle.parts.specs.Plan.{arrival_of, deadline_of, clo_of, chi_of, level_of, is_high, from_of, to_of, lo_at, hi_at}

-- L, n and m in their ranges
unfoldable pub sizes_ok : Limits → ℕ → ℕ → ℕ → Bool
sizes_ok lim len n m =
    all_of (nat_le 1 len ∷ nat_le len lim.slots ∷ nat_le 1 n ∷ nat_le n lim.jobs ∷ nat_le m lim.edges ∷ [])

-- idle, or a job's number
unfoldable pub byte_ok : ℕ → ℕ → Bool
byte_ok n x = x == idle || nat_lt x n

-- both tables at slot t
unfoldable pub slot_ok : Limits → List ℕ → ℕ → ℕ → Bool
slot_ok lim tables n t = all_of (byte_ok n (lo_at tables t) ∷ byte_ok n (hi_at lim tables t) ∷ [])

unfoldable pub tables_ok : Limits → List ℕ → ℕ → ℕ → Bool
tables_ok lim tables len n = all_below (slot_ok lim tables n) len

-- both ends of each of m edges name jobs
unfoldable pub edges_ok : List ℕ → ℕ → ℕ → Bool
edges_ok edges m n = all_below (λ i. ltb (slice_index edges i) n) (2 * m)

-- job j's level and budgets
unfoldable pub job_ok : Limits → List ℕ → ℕ → Bool
job_ok lim jobs j =
    all_of (nat_le (level_of jobs j) 1 ∷ nat_le (clo_of jobs j) lim.budget ∷ nat_le (chi_of jobs j) lim.budget ∷ [])

unfoldable pub jobs_ok : Limits → List ℕ → ℕ → Bool
jobs_ok lim jobs n = all_below (job_ok lim jobs) n

-- the unit counts
unfoldable pub units_ok : Limits → List ℕ → ℕ → Bool
units_ok lim units n = all_below (λ j. leb (slice_index units j) lim.budget) n

-- edge e ends at another job than j, or starts at a finished one
unfoldable pub ended_before : List ℕ → List ℕ → ℕ → ℕ → Bool
ended_before edges done j e = not (to_of edges e == j) || is_set (slice_index done (from_of edges e))

-- all predecessors of job j are finished
unfoldable pub preds_done : ℕ → List ℕ → List ℕ → ℕ → Bool
preds_done m edges done j = all_below (ended_before edges done j) m

-- the job that the mode's table names at a slot
unfoldable pub named_in : Limits → List ℕ → ℕ → ℕ → ℕ
named_in lim tables slot high = pick (is_set high) (hi_at lim tables slot) (lo_at tables slot)

-- one unit more; a count stops at 1,024
unfoldable pub bump : Limits → ℕ → ℕ
bump lim u = pick (nat_lt u lim.budget) (u + 1) u

-- 35: job j is high, has not ended, and with one unit more is at or past CHI
unfoldable pub past_high : Limits → List ℕ → List ℕ → ℕ → Bool → Bool
past_high lim jobs units j e = not e && is_high jobs j && nat_le (chi_of jobs j) (bump lim (slice_index units j))

-- job j is low, in HI, at or past its deadline
unfoldable pub late_low : List ℕ → ℕ → ℕ → ℕ → Bool
late_low jobs slot high j = is_set high && not (is_high jobs j) && nat_le (deadline_of jobs j) slot

-- job j may run: unfinished, uncut, arrived, in HI in time if low, with its predecessors finished
unfoldable pub may_run : ℕ → List ℕ → List ℕ → ℕ → ℕ → ℕ → List ℕ → List ℕ → Bool
may_run m jobs edges j slot high done cut =
    all_of (
    not (is_set (slice_index done j)) ∷ not (is_set (slice_index cut j)) ∷ nat_le (arrival_of jobs j) slot
    ∷ not (late_low jobs slot high j) ∷ preds_done m edges done j ∷ []
    )

-- the named job if it may run, else idle
unfoldable pub choice_in : ℕ → List ℕ → List ℕ → ℕ → ℕ → ℕ → List ℕ → List ℕ → ℕ
choice_in m jobs edges named slot high done cut =
    pick (named == idle) idle (pick (may_run m jobs edges named slot high done cut) named idle)
