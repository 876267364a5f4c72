-- The paper's number and place of each answer of the log.
-- Assumes nothing.
use Rattle.std.specs.Prelude.{ℕ, Result}
use Rattle.refusal.specs.Answer.{number_with, place_with}
use Rattle.verdict.specs.declared.Spot.{Spot}
use Rattle.planfile.specs.Numbers.{nowhere, read_why_number, read_why_place}
use Rattle.planlog.specs.declared.AppendWhy.{AppendWhy}
use Rattle.planlog.specs.declared.AppendWhy.TheVariants.{Large, Refused, Full}

-- why nothing was appended: its number
abbrev pub append_why_number : AppendWhy → ℕ
append_why_number Large = 52
append_why_number (Refused w) = read_why_number w
append_why_number Full = 50

-- and its place
abbrev pub append_why_place : AppendWhy → Spot
append_why_place Large = nowhere
append_why_place (Refused w) = read_why_place w
append_why_place Full = nowhere

-- an append: 0 for yes
abbrev pub append_number : Result ℕ AppendWhy → ℕ
append_number a = number_with append_why_number a

abbrev pub append_place : Result ℕ AppendWhy → Spot
append_place a = place_with nowhere append_why_place a
