-- The paper's number and place of each answer.
-- Assumes nothing.
use Rattle.std.specs.Prelude.{ℕ, Result}
use Rattle.refusal.specs.Answer.{number_with, place_with}
use Rattle.joblist.specs.declared.Place.{Place}
use Rattle.joblist.specs.declared.Place.TheVariants.{Nowhere, AtJob, AtEdge}
use Rattle.joblist.specs.declared.Why.{Why}
use Rattle.joblist.specs.declared.Why.TheVariants.{Short, Jobs, Edges, Slots, Length, Zero, Level, Times, Budgets, Pair, LowToHigh, Cycle}

-- the number of a refusal
abbrev pub number_of : Why → ℕ
number_of Short = 40
number_of Jobs = 1
number_of Edges = 2
number_of Slots = 3
number_of Length = 43
number_of Zero = 44
number_of (Level j) = 6
number_of (Times j) = 4
number_of (Budgets j) = 5
number_of (Pair e) = 7
number_of (LowToHigh e) = 8
number_of Cycle = 9

-- the place of a refusal
abbrev pub place_of : Why → Place
place_of Short = Nowhere
place_of Jobs = Nowhere
place_of Edges = Nowhere
place_of Slots = Nowhere
place_of Length = Nowhere
place_of Zero = Nowhere
place_of (Level j) = AtJob j
place_of (Times j) = AtJob j
place_of (Budgets j) = AtJob j
place_of (Pair e) = AtEdge e
place_of (LowToHigh e) = AtEdge e
place_of Cycle = Nowhere

-- the number of an answer: 0 for yes
abbrev pub answer_number : Result Unit Why → ℕ
answer_number a = number_with number_of a

-- the place of an answer
abbrev pub answer_place : Result Unit Why → Place
answer_place a = place_with Nowhere place_of a
