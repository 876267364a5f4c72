-- Units that jobs have had, one count a job.
-- Assumes nothing.
use Rattle.std.specs.Prelude.{ℕ, suc, Bool, true, false, List, get_or, set}

-- the units that job j has had
abbrev pub units_of : List ℕ → ℕ → ℕ
units_of had j = get_or had j 0

-- one unit more of job j, where it ran
unfoldable pub one_more : Bool → ℕ → List ℕ → List ℕ
one_more false j had = had
one_more true j had = set had j (suc (units_of had j))
