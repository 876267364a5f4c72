-- What the check of a job list answers: the rows of document 01's table, in their order.
-- Assumes nothing.
use Rattle.std.specs.Prelude.{ℕ, zero, suc, ◌-◌, max, List, Bool, not, ◌&&◌, ◌||◌, length, leb, ltb, eqb, Result}
use Rattle.basics.specs.Limits.{Limits}
use Rattle.basics.specs.Chain.{◌⨾◌, need, each}
use Rattle.joblist.specs.Fields.{head_bytes, list_bytes, jobs, edges, slots, head_zero, arrival, deadline, ordinary, high, level, job_zero, edge_from, edge_to}
use Rattle.joblist.specs.Cycle.{cyclic}
use Rattle.joblist.specs.declared.Why.{Why}
use Rattle.joblist.specs.declared.Why.TheVariants.{Short, Jobs, Edges, Slots, Length, Zero, Level, Times, Budgets, Pair, LowToHigh, Cycle}

-- x is from 1 to most
unfoldable pub within : ℕ → ℕ → Bool
within most x = leb 1 x && leb x most

-- 1, 2, 3, 43, 44: the counts n, m and l and the zero z, of len bytes where the counts give `whole`
unfoldable pub counts_answer : Limits → ℕ → ℕ → ℕ → ℕ → ℕ → ℕ → Result Unit Why
counts_answer lim len whole n m l z =
    need (within lim.jobs n) Jobs
    ⨾ need (leb m lim.edges) Edges
    ⨾ need (within lim.slots l) Slots
    ⨾ need (eqb len whole) Length
    ⨾ need (eqb z 0) Zero

-- 44: the zero byte of job j
abbrev pub zero_answer : List ℕ → ℕ → Result Unit Why
zero_answer s j = need (eqb (job_zero s j) 0) Zero

-- arrival a and deadline d: a < d, and d at most the limit
unfoldable pub good_times : Limits → ℕ → ℕ → Bool
good_times lim a d = ltb a d && leb d lim.slots

-- the budgets of a job of level v: 1 <= CLO <= CHI, at most the limit, and a low job has CLO = CHI
unfoldable pub good_budgets : Limits → ℕ → ℕ → ℕ → Bool
good_budgets lim v lo hi = leb 1 lo && leb lo hi && leb hi lim.budget && (eqb v 1 || eqb lo hi)

-- 6, 4, 5: job j of level v, arrival a, deadline d and the budgets lo and hi
unfoldable pub fields_answer : Limits → ℕ → ℕ → ℕ → ℕ → ℕ → ℕ → Result Unit Why
fields_answer lim j v a d lo hi =
    need (leb v 1) (Level j)
    ⨾ need (good_times lim a d) (Times j)
    ⨾ need (good_budgets lim v lo hi) (Budgets j)

-- the same of job j in the bytes, its high budget read as `chi` says
abbrev pub job_answer : Limits → (ℕ → ℕ) → List ℕ → ℕ → Result Unit Why
job_answer lim chi s j = fields_answer lim j (level s j) (arrival s j) (deadline s j) (ordinary s j) (chi j)

-- the largest deadline of jobs 0 to n - 1
unfoldable pub largest : List ℕ → ℕ → ℕ
largest s zero = 0
largest s (suc n) = max (largest s n) (deadline s n)

-- edges are ordered by p, then s: the pair (p, q) comes before the pair (p', q')
abbrev pub precedes : ℕ → ℕ → ℕ → ℕ → Bool
precedes p q p' q' = ltb p p' || (eqb p p' && ltb q q')

-- edge e is the first, or the edge before it precedes it
unfoldable pub rising : List ℕ → ℕ → ℕ → Bool
rising s n e =
    eqb e 0 || precedes (edge_from s n (e - 1)) (edge_to s n (e - 1)) (edge_from s n e) (edge_to s n e)

-- an edge from p to q names two jobs and not one job twice, and it is in order
unfoldable pub good_pair : ℕ → ℕ → ℕ → Bool → Bool
good_pair n p q in_order = ltb p n && ltb q n && not (eqb p q) && in_order

-- 7, 8: edge e
abbrev pub edge_answer : List ℕ → ℕ → ℕ → Result Unit Why
edge_answer s n e =
    need (good_pair n (edge_from s n e) (edge_to s n e) (rising s n e)) (Pair e)
    ⨾ need (leb (level s (edge_to s n e)) (level s (edge_from s n e))) (LowToHigh e)

-- 44, then 6, 4, 5 of each job, 3 by the largest deadline, 7, 8 of each edge, 9: n jobs and m edges
unfoldable pub body_answer : Limits → (ℕ → ℕ) → List ℕ → ℕ → ℕ → Result Unit Why
body_answer lim chi s n m =
    each n (zero_answer s)
    ⨾ each n (job_answer lim chi s)
    ⨾ need (eqb (slots s) (largest s n)) Slots
    ⨾ each m (edge_answer s n)
    ⨾ need (not (cyclic s n m)) Cycle

-- all rows from 1 to 9 of a list at the front of the bytes, where the counts give `whole` bytes
unfoldable pub front_answer : Limits → (ℕ → ℕ) → List ℕ → ℕ → Result Unit Why
front_answer lim chi s whole =
    counts_answer lim (length s) whole (jobs s) (edges s) (slots s) (head_zero s)
    ⨾ body_answer lim chi s (jobs s) (edges s)

-- the whole list: 40, and the rows from 1 to 9
unfoldable pub list_answer : Limits → List ℕ → Result Unit Why
list_answer lim s =
    need (leb head_bytes (length s)) Short
    ⨾ front_answer lim (high s) s (list_bytes (jobs s) (edges s))
