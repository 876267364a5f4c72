-- A row as runs of jobs, which is how the code keeps it.
-- Assumes nothing.
use Rattle.std.specs.Prelude.{ℕ, zero, suc, ◌+◌, ◌-◌, List, [], ◌∷◌, ◌++◌, get_or, replicate}
use Rattle.hitable.specs.declared.Run.{Run}
use Rattle.hitable.specs.declared.Row.{Row}

-- run i
abbrev pub run_at : List Run → ℕ → Run
run_at rs i = get_or rs i (record { unit = 0; more = 0 })

-- k runs from run i on: each its unit, and as many further ones as `more` says
unfoldable pub runs : List Run → ℕ → ℕ → List ℕ
runs rs i zero = []
runs rs i (suc k) = (run_at rs i).unit ∷ (replicate (run_at rs i).more (run_at rs i).unit ++ runs rs (i + 1) k)

-- the runs from head to tail - 1
unfoldable pub row_of : List Run → ℕ → ℕ → List ℕ
row_of rs head tail = runs rs head (tail - head)

-- the units of a row
abbrev pub owed : Row → List ℕ
owed r = row_of r.runs r.head r.tail
