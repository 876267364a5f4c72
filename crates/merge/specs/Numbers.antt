-- The paper's number and place of each answer of a build.
-- Assumes nothing.
use Rattle.std.specs.Prelude.{ℕ, Result}
use Rattle.refusal.specs.Answer.{number_with, place_with}
use Rattle.joblist.specs.Numbers.{number_of, place_of}
use Rattle.joblist.specs.declared.Place.TheVariants.{Nowhere}
use Rattle.merge.specs.declared.BuildWhy.{BuildWhy}
use Rattle.merge.specs.declared.BuildWhy.TheVariants.{OfList, Room, LowLate, HighLate, Both, Early, Rejected}
use Rattle.merge.specs.declared.BuildPlace.{BuildPlace}
use Rattle.merge.specs.declared.BuildPlace.TheVariants.{InList, AtJob, AtSlot, Answer}

-- the number of a refusal
abbrev pub why_number : BuildWhy → ℕ
why_number (OfList w) = number_of w
why_number Room = 46
why_number (LowLate t j) = 20
why_number (HighLate t j) = 21
why_number (Both t) = 22
why_number (Early t) = 23
why_number (Rejected v) = 24

-- the place of a refusal: the list's, a slot and a job, a slot, or the check's answer
abbrev pub why_place : BuildWhy → BuildPlace
why_place (OfList w) = InList (place_of w)
why_place Room = InList Nowhere
why_place (LowLate t j) = AtJob t j
why_place (HighLate t j) = AtJob t j
why_place (Both t) = AtSlot t
why_place (Early t) = AtSlot t
why_place (Rejected v) = Answer v

-- the number of an answer: 0 for a plan
abbrev pub built_number : Result ℕ BuildWhy → ℕ
built_number a = number_with why_number a

-- the place of an answer
abbrev pub built_place : Result ℕ BuildWhy → BuildPlace
built_place a = place_with (InList Nowhere) why_place a
