-- What C is handed: places and answers as records of numbers.
-- Assumes nothing.
use Rattle.std.specs.Prelude.{ℕ, Result, Ok, Err}
use Rattle.joblist.specs.declared.Place.{Place as ListPlace}
use Rattle.joblist.specs.declared.Place.TheVariants.{Nowhere, AtJob, AtEdge}
use Rattle.verdict.specs.declared.Fault.{Fault}
use Rattle.verdict.specs.declared.Fault.TheVariants.{Late, Early, Before}
use Rattle.verdict.specs.declared.Spot.{Spot}
use Rattle.verdict.specs.declared.Spot.TheVariants.{InList, AtSlot, AtFault}
use Rattle.verdict.specs.Answer.{Verdict}
use Rattle.verdict.specs.Numbers.{answer_number, place_of}
use Rattle.merge.specs.declared.BuildPlace.{BuildPlace}
use Rattle.merge.specs.declared.BuildPlace.TheVariants.{InList as OfList, AtJob as AtSlotAndJob, AtSlot as AtSlotAlone, Answer as OfCheck}
use Rattle.hut.specs.declared.Place.{Place}
use Rattle.hut.specs.declared.Answer.{Answer}

-- what an answer has not got; as a switch slot it is document 01's own mark of no switch
abbrev pub absent : ℕ
absent = 65535

-- a slot, a job, a predecessor and a switch slot
abbrev pub place_at : ℕ → ℕ → ℕ → ℕ → Place
place_at t j p x = record { fault = absent; slot = t; job = j; pred = p; switched = x; edge = absent }

abbrev pub nowhere : Place
nowhere = place_at absent absent absent absent

abbrev pub at_edge : ℕ → Place
at_edge e = record { fault = absent; slot = absent; job = absent; pred = absent; switched = absent; edge = e }

-- a place with the number of the check's answer beside it
abbrev pub with_fault : ℕ → Place → Place
with_fault n p = record { fault = n; slot = p.slot; job = p.job; pred = p.pred; switched = p.switched; edge = p.edge }

-- a place of the list, and of a step
abbrev pub list_place : ListPlace → Place
list_place Nowhere = nowhere
list_place (AtJob j) = place_at absent j absent absent
list_place (AtEdge e) = at_edge e

-- a fault's slot, job, predecessor and switch slot
abbrev pub fault_place : Fault → Place
fault_place (Late t j x) = place_at t j absent x
fault_place (Early t j x) = place_at t j absent x
fault_place (Before t j p x) = place_at t j p x

-- a place of the check, of reading and of writing
abbrev pub spot_place : Spot → Place
spot_place (InList p) = list_place p
spot_place (AtSlot t) = place_at t absent absent absent
spot_place (AtFault f) = fault_place f

-- the place of the check's answer
abbrev pub verdict_place : Verdict → Place
verdict_place (Ok u) = nowhere
verdict_place (Err w) = spot_place (place_of w)

-- a place of a build: the list's, a slot and a job, a slot, or for 24 the check's number and place
abbrev pub build_place : BuildPlace → Place
build_place (OfList p) = list_place p
build_place (AtSlotAndJob t j) = place_at t j absent absent
build_place (AtSlotAlone t) = place_at t absent absent absent
build_place (OfCheck v) = with_fault (answer_number v) (verdict_place v)

-- a number with its place
abbrev pub says : ℕ → Place → Answer
says n p = record { number = n; place = p; order = absent; length = absent }

-- the number that a yes brings; a no has none
abbrev pub brought : {W : Type 0} → Result ℕ W → ℕ
brought (Ok n) = n
brought (Err w) = absent
