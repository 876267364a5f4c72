-- The names of jobs, as lists of bytes.
-- Assumes nothing.
use Rattle.std.specs.Prelude.{ℕ, List, [], map, take, slice_index_or}
use Rattle.jobtext.specs.declared.names.Name.{Name}
use Rattle.jobtext.specs.declared.names.Names.{Names}

-- the bytes of a name
abbrev pub bytes_in : Name → List ℕ
bytes_in n = take n.size n.letters

-- the names of all jobs that have one
abbrev pub names_of : Names → List (List ℕ)
names_of n = map bytes_in (take n.count n.names)

-- the name of job j; no bytes where it has none
abbrev pub name_in : List (List ℕ) → ℕ → List ℕ
name_in names j = slice_index_or names j []
