-- Words that all building rules share: a table's entries, the units in it, and who waits for whom. A table has L entries, each a job number, or 255 for idle.
-- Assumes nothing.
use Rattle.std.specs.Prelude.{ℕ, List, Bool, false, get_or, replicate, ltb, leb}
use Rattle.basics.specs.Below.{entries_before}
use Rattle.basics.specs.Marks.{idle}
use Rattle.joblist.specs.Fields.{jobs, edges, slots}
use Rattle.joblist.specs.Cycle.{reached}

-- the entry of slot t
abbrev pub entry : List ℕ → ℕ → ℕ
entry table t = get_or table t 0

-- whether job j is marked
abbrev pub marked : List Bool → ℕ → Bool
marked marks j = get_or marks j false

-- the units that job j has in a table before slot t
abbrev pub units : List ℕ → ℕ → ℕ → ℕ
units table t j = entries_before (entry table) j t

module _ (s : List ℕ) where
  -- a table with every slot idle
  abbrev pub all_idle : List ℕ
  all_idle = replicate (slots s) idle

  -- slot t holds a job; slot t is empty
  abbrev pub held : List ℕ → ℕ → Bool
  held table t = ltb (entry table t) (jobs s)

  abbrev pub empty : List ℕ → ℕ → Bool
  empty table t = leb (jobs s) (entry table t)

  -- a predecessor of job j is one of the jobs `undone`
  unfoldable pub waits : (ℕ → Bool) → ℕ → Bool
  waits undone j = reached s (jobs s) (edges s) undone j
