-- What the late tables mean, as statements for the reader who must believe the definitions.
-- Assumes nothing.
use Rattle.std.specs.Prelude.{ℕ, ◌≤◌, ◌<◌, min, ◌≡◌, true, List, set}
use Rattle.basics.specs.Choice.{Best}
use Rattle.basics.specs.Find.{lowest}
use Rattle.basics.specs.Marks.{idle}
use Rattle.joblist.specs.Fields.{jobs, edges, slots, arrival, deadline, ordinary, edge_in}
use Rattle.late.specs.Table.{entry, units, all_idle, held, empty}
use Rattle.late.specs.Late.{ready, takes, unfinished, edf, holds_next, target, moved, late_table, thi}

-- no unit of a job stands at or past a unit of its successor
abbrev pub Ordered : List ℕ → List ℕ → Type 0
Ordered s table =
    (x y : ℕ) → x < slots s → y ≤ x → entry table x < jobs s → entry table y < jobs s
    → edge_in s (jobs s) (edges s) (entry table x) (entry table y) ≡ true → ⊥

module _ (s : List ℕ) (v : ℕ) where
  -- earliest deadline first from an idle table; the same when the units of the last k slots have moved
  abbrev pub filled : List ℕ
  filled = edf s v (all_idle s)

  abbrev pub after : ℕ → List ℕ
  after k = moved s filled k

  -- slot t holds a ready job of the earliest deadline, the lowest of these; or it is idle, and no job is ready
  pub record Chosen (t : ℕ) : Type 0 where
    pub best : entry filled t < jobs s → Best (ready s (unfinished s v filled t) t) (deadline s) (jobs s) (entry filled t)
    pub none : jobs s ≤ entry filled t → (entry filled t ≡ idle) × ((j : ℕ) → j < jobs s → ready s (unfinished s v filled t) t j ≡ true → ⊥)

  -- when it is the turn of the unit of slot t: its own slot is one that it may move to, so that there is a highest one, and it never moves to an earlier slot
  pub record Serves (k t : ℕ) : Type 0 where
    pub below : t < lowest (holds_next s (set (after k) t idle) (entry (after k) t)) (deadline s (entry (after k) t)) 0
    pub free : empty s (set (after k) t idle) t ≡ true
    pub later : t ≤ target s (set (after k) t idle) (entry (after k) t) t

  -- the late table: each job has exactly the units that it takes, as many as before the moves; each unit stands in its job's window, and before every unit of a successor
  pub record LateTable : Type 0 where
    pub kept : (j : ℕ) → j < jobs s → units (late_table s v (all_idle s)) (slots s) j ≡ units filled (slots s) j
    pub exact : (j : ℕ) → j < jobs s → units (late_table s v (all_idle s)) (slots s) j ≡ takes s v j
    pub arrived : (x : ℕ) → x < slots s → held s (late_table s v (all_idle s)) x ≡ true → arrival s (entry (late_table s v (all_idle s)) x) ≤ x
    pub in_time : (x : ℕ) → x < slots s → held s (late_table s v (all_idle s)) x ≡ true → x < deadline s (entry (late_table s v (all_idle s)) x)
    pub ordered : Ordered s (late_table s v (all_idle s))

-- THI: each of its units is one of the late table of high jobs, in the same slot; and before any slot it has the first CLO units of a job, those and no others
pub record FirstOfEach (s : List ℕ) : Type 0 where
  pub same : (x : ℕ) → x < slots s → held s (thi s) x ≡ true → entry (thi s) x ≡ entry (late_table s 1 (all_idle s)) x
  pub first : (t j : ℕ) → t ≤ slots s → j < jobs s → units (thi s) t j ≡ min (units (late_table s 1 (all_idle s)) t j) (ordinary s j)
