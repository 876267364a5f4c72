-- The two marks of document 01: idle in a table, and no switch in an answer.
-- Assumes nothing.
use Rattle.std.specs.Prelude.{ℕ}

-- a table byte that names no job
abbrev pub idle : ℕ
idle = 255

-- the switch slot of a fault before which no switch was made
abbrev pub no_switch : ℕ
no_switch = 65535
