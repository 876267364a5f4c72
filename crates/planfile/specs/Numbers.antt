-- The paper's number and place of each answer of reading and writing.
-- Assumes nothing.
use Rattle.std.specs.Prelude.{ℕ, Result}
use Rattle.refusal.specs.Answer.{number_with, place_with}
use Rattle.joblist.specs.declared.Place.TheVariants.{Nowhere}
use Rattle.verdict.specs.Numbers.{number_of, place_of}
use Rattle.verdict.specs.declared.Spot.{Spot}
use Rattle.verdict.specs.declared.Spot.TheVariants.{InList}
use Rattle.planfile.specs.declared.ReadWhy.{ReadWhy}
use Rattle.planfile.specs.declared.ReadWhy.TheVariants.{Short, Mark, Distance, Checked}
use Rattle.planfile.specs.declared.Shape.{Shape}
use Rattle.planfile.specs.declared.WriteWhy.{WriteWhy}
use Rattle.planfile.specs.declared.WriteWhy.TheVariants.{Checked as NotChecked, Room}

-- no place
abbrev pub nowhere : Spot
nowhere = InList Nowhere

-- why bytes are no plan: its number
abbrev pub read_why_number : ReadWhy → ℕ
read_why_number Short = 40
read_why_number Mark = 41
read_why_number Distance = 42
read_why_number (Checked w) = number_of w

-- and its place
abbrev pub read_why_place : ReadWhy → Spot
read_why_place Short = nowhere
read_why_place Mark = nowhere
read_why_place Distance = nowhere
read_why_place (Checked w) = place_of w

-- reading: 0 for yes
abbrev pub read_number : Result Shape ReadWhy → ℕ
read_number a = number_with read_why_number a

abbrev pub read_place : Result Shape ReadWhy → Spot
read_place a = place_with nowhere read_why_place a

-- why nothing was written: its number
abbrev pub write_why_number : WriteWhy → ℕ
write_why_number (NotChecked w) = number_of w
write_why_number Room = 46

-- and its place
abbrev pub write_why_place : WriteWhy → Spot
write_why_place (NotChecked w) = place_of w
write_why_place Room = nowhere

-- writing: 0 for yes
abbrev pub wrote_number : Result ℕ WriteWhy → ℕ
wrote_number a = number_with write_why_number a

abbrev pub wrote_place : Result ℕ WriteWhy → Spot
wrote_place a = place_with nowhere write_why_place a
