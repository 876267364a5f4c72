-- The paper's number of each answer of a search.
-- Assumes nothing.
use Rattle.std.specs.Prelude.{ℕ, Result}
use Rattle.refusal.specs.Answer.{number_with}
use Rattle.verdict.specs.declared.Spot.{Spot}
use Rattle.planfile.specs.Numbers.{nowhere}
use Rattle.logwalk.specs.declared.FindWhy.{FindWhy}
use Rattle.logwalk.specs.declared.FindWhy.TheVariants.{Large, Empty}
use Rattle.logwalk.specs.declared.Span.{Span}

-- why no plan was found: its number
abbrev pub find_why_number : FindWhy → ℕ
find_why_number Large = 52
find_why_number Empty = 51

-- it has no place
abbrev pub find_why_place : FindWhy → Spot
find_why_place w = nowhere

-- a plan found: 0 for yes
abbrev pub found_number : Result Span FindWhy → ℕ
found_number a = number_with find_why_number a
