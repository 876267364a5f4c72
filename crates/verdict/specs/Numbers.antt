-- The paper's number and place of each answer of the check.
-- Assumes nothing.
use Rattle.std.specs.Prelude.{ℕ}
use Rattle.refusal.specs.Answer.{number_with}
use Rattle.joblist.specs.Numbers.{number_of as list_number, place_of as list_place}
use Rattle.joblist.specs.declared.Place.TheVariants.{Nowhere}
use Rattle.verdict.specs.Answer.{Verdict}
use Rattle.verdict.specs.declared.Fault.{Fault}
use Rattle.verdict.specs.declared.Fault.TheVariants.{Late, Early, Before}
use Rattle.verdict.specs.declared.Objection.{Objection}
use Rattle.verdict.specs.declared.Objection.TheVariants.{OfList, Size, Entry, Bad}
use Rattle.verdict.specs.declared.Spot.{Spot}
use Rattle.verdict.specs.declared.Spot.TheVariants.{InList, AtSlot, AtFault}

-- late, too early, before a predecessor
abbrev pub fault_number : Fault → ℕ
fault_number (Late t j x) = 10
fault_number (Early t j x) = 11
fault_number (Before t j p x) = 12

-- the number of an objection
abbrev pub number_of : Objection → ℕ
number_of (OfList w) = list_number w
number_of Size = 43
number_of (Entry t) = 45
number_of (Bad f) = fault_number f

-- the place of an objection: the list's, a slot, or a fault's slot, job, predecessor and switch slot
abbrev pub place_of : Objection → Spot
place_of (OfList w) = InList (list_place w)
place_of Size = InList Nowhere
place_of (Entry t) = AtSlot t
place_of (Bad f) = AtFault f

-- the number of an answer: 0 for yes
abbrev pub answer_number : Verdict → ℕ
answer_number v = number_with number_of v
