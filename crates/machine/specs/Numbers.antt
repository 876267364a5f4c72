-- The paper's number and place of each answer.
-- Assumes nothing.
use Rattle.std.specs.Prelude.{ℕ, Bool, true, false, Result}
use Rattle.refusal.specs.Answer.{number_with, place_with}
use Rattle.joblist.specs.declared.Place.{Place}
use Rattle.joblist.specs.declared.Place.TheVariants.{Nowhere, AtJob}
use Rattle.machine.specs.declared.answer.Why.{Why}
use Rattle.machine.specs.declared.answer.Why.TheVariants.{BadState, Halted, SameTick, HalfAway, StaleTick, TicksLost, NoJob, PastHigh}

-- the number of a refusal
abbrev pub number_of : Why → ℕ
number_of BadState = 37
number_of Halted = 32
number_of SameTick = 30
number_of HalfAway = 36
number_of StaleTick = 33
number_of TicksLost = 31
number_of NoJob = 34
number_of (PastHigh j) = 35

-- the place of a refusal: 35 names the job
abbrev pub place_of : Why → Place
place_of BadState = Nowhere
place_of Halted = Nowhere
place_of SameTick = Nowhere
place_of HalfAway = Nowhere
place_of StaleTick = Nowhere
place_of TicksLost = Nowhere
place_of NoJob = Nowhere
place_of (PastHigh j) = AtJob j

-- whether a refusal halts: 31, 35 and 36
abbrev pub halts_of : Why → Bool
halts_of BadState = false
halts_of Halted = false
halts_of SameTick = false
halts_of HalfAway = true
halts_of StaleTick = false
halts_of TicksLost = true
halts_of NoJob = false
halts_of (PastHigh j) = true

-- an order or a refusal
abbrev pub Answer : Type 0
Answer = Result ℕ Why

-- the number of an answer: 0 for an order
abbrev pub answer_number : Answer → ℕ
answer_number a = number_with number_of a

-- the place of an answer
abbrev pub answer_place : Answer → Place
answer_place a = place_with Nowhere place_of a
