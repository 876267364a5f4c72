-- Late tables, of one level v: the low level is 0, the high level 1. The list is its bytes s.
-- Assumes nothing.
use Rattle.std.specs.Prelude.{ℕ, zero, suc, ◌+◌, ◌-◌, List, Bool, cond, not, ◌&&◌, set, leb, ltb, eqb, Result, Ok, Err}
use Rattle.std.specs.Result.{result_and}
use Rattle.basics.specs.Choice.{earliest}
use Rattle.basics.specs.Turns.{turns}
use Rattle.basics.specs.Find.{lowest, highest}
use Rattle.joblist.specs.Fields.{jobs, edges, slots, arrival, deadline, ordinary, high, level, edge_in}
use Rattle.basics.specs.Marks.{idle}
use Rattle.late.specs.Table.{entry, units, all_idle, held, empty, waits}
use Rattle.late.specs.declared.Late.{Late}

-- job j is late at slot t
abbrev pub at : ℕ → ℕ → Result (Unit {0}) Late
at t j = Err (record { slot = t; job = j })

module _ (s : List ℕ) where
  -- job j has arrived, is unfinished (undone) and has all predecessors finished
  unfoldable pub ready : (ℕ → Bool) → ℕ → ℕ → Bool
  ready undone t j = leb (arrival s j) t && (undone j && not (waits s undone j))

  -- job j has the deadline t, and is unfinished (undone)
  unfoldable pub late_at : (ℕ → Bool) → ℕ → ℕ → Result (Unit {0}) Late
  late_at undone t j = cond (eqb (deadline s j) t && undone j) (at t j) (Ok tt)

  -- earliest deadline first over one level
  module _ (v : ℕ) where
    -- low jobs take CLO units, high jobs CHI; a job of the other level takes none, and so is finished
    unfoldable pub takes : ℕ → ℕ
    takes j = cond (eqb (level s j) v) (cond (eqb v 0) (ordinary s j) (high s j)) 0

    -- job j is unfinished at the opening of slot t
    unfoldable pub unfinished : List ℕ → ℕ → ℕ → Bool
    unfinished table t j = ltb (units table t j) (takes j)

    -- the choice for slot t: among the ready jobs the earliest deadline, and of these the lowest number; 255 where no job is ready
    unfoldable pub chosen : List ℕ → ℕ → ℕ
    chosen table t = earliest (ready (unfinished table t) t) (deadline s) (jobs s)

    -- the table with the slots below t filled, from slot 0 on
    unfoldable pub edf_at : List ℕ → ℕ → List ℕ
    edf_at start zero = start
    edf_at start (suc t) = set (edf_at start t) t (chosen (edf_at start t) t)

    abbrev pub edf : List ℕ → List ℕ
    edf start = edf_at start (slots s)

    -- 20, 21: the first slot (to L) at whose opening a job with that d is unfinished, and the lowest such job
    abbrev pub late_in : List ℕ → ℕ → Result (Unit {0}) Late
    late_in table t = turns result_and (Ok tt) (late_at (unfinished table t) t) (jobs s) 0

    unfoldable pub late_answer : List ℕ → Result (Unit {0}) Late
    late_answer table = turns result_and (Ok tt) (late_in table) (slots s + 1) 0

  -- slot x is held by a successor of job j
  abbrev pub holds_next : List ℕ → ℕ → ℕ → Bool
  holds_next table j x = held s table x && edge_in s (jobs s) (edges s) j (entry table x)

  -- the highest empty slot below the deadline of j and below every slot held by a successor; t where there is none
  unfoldable pub target : List ℕ → ℕ → ℕ → ℕ
  target table j t = highest (empty s table) t (lowest (holds_next table j) (deadline s j) 0)

  -- the unit of slot t moves; its own slot counts as empty
  unfoldable pub move : List ℕ → ℕ → List ℕ
  move table t =
      cond (held s table t) (set (set table t idle) (target (set table t idle) (entry table t) t) (entry table t)) table

  -- the units of the last k slots moved, from the last slot to the first
  unfoldable pub moved : List ℕ → ℕ → List ℕ
  moved table zero = table
  moved table (suc k) = move (moved table k) (slots s - 1 - k)

  -- the late table of level v
  unfoldable pub late_table : ℕ → List ℕ → List ℕ
  late_table v start = moved (edf v start) (slots s)

  -- the entry of slot t, where it is one of the first CLO units of its job
  unfoldable pub first_unit : List ℕ → ℕ → ℕ
  first_unit table t =
      cond (held s table t && ltb (units table t (entry table t)) (ordinary s (entry table t))) (entry table t) idle

  -- the first CLO units of each job, in the slots below t
  unfoldable pub first_units : List ℕ → ℕ → List ℕ
  first_units table zero = table
  first_units table (suc t) = set (first_units table t) t (first_unit table t)

  -- 20 and 21, TLO, and THI as first made
  unfoldable pub late_of : ℕ → Result (Unit {0}) Late
  late_of v = late_answer v (edf v (all_idle s))

  unfoldable pub tlo : List ℕ
  tlo = late_table 0 (all_idle s)

  unfoldable pub thi : List ℕ
  thi = first_units (late_table 1 (all_idle s)) (slots s)
