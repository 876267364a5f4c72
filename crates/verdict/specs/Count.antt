-- Counting: how many entries of a job stand in a table before a slot, and the running form. The one home of the question.
-- Assumes nothing.
use Rattle.std.specs.Prelude.{ℕ, ◌<◌, min, ◌≡◌, List, length, get_or}
use Rattle.basics.specs.Below.{entries_before}
use Rattle.basics.specs.Marks.{idle}
use Rattle.basics.specs.Units.{units_of}

-- what a table holds in a slot; past its end, idle
abbrev pub entry_at : List ℕ → ℕ → ℕ
entry_at table t = get_or table t idle

-- the entries that equal j in the slots before t; a table ends where its bytes end, so that none stands past them
unfoldable pub entries_in : List ℕ → ℕ → ℕ → ℕ
entries_in table j t = entries_before (entry_at table) j (min t (length table))

-- the running form: of each of n jobs its entries in the table before slot t
pub record Running (n : ℕ) (table counts : List ℕ) (t : ℕ) : Type 0 where
  pub long : length counts ≡ n
  pub each : (j : ℕ) → j < n → units_of counts j ≡ entries_in table j t
