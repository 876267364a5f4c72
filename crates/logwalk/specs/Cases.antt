-- A store of 100 bytes with P1's plan, once and twice.
-- Assumes nothing.
use Rattle.std.specs.Prelude.{ℕ, List, ◌++◌, replicate}
use Rattle.planfile.specs.Cases.{plan_a}

-- 100 bytes with no plan, with one, and with two
abbrev pub no_plan : List ℕ
no_plan = replicate 100 0

abbrev pub one_plan : List ℕ
one_plan = plan_a ++ replicate 54 0

abbrev pub two_plans : List ℕ
two_plans = plan_a ++ plan_a ++ replicate 8 0
