-- Worked lines of document 01 on frames, computed; and what demand 3 says of two of them.
-- Assumes nothing.
-- the tables of P1, P8 to P10 and the last worked line
use mathlib.Core.List.{List, [], ◌∷◌}
use mathlib.Core.Path.{◌≡◌, refl}
use Prim.Native.Nat.{ℕ}
use Rattle.basics.specs.Below.{all_below}
use Rattle.basics.specs.Find.{find}
use Rattle.basics.specs.Units.{one_more}
use Rattle.frame.proofs.Demand.{demand3}
use Rattle.frame.proofs.WellFormed.{well}
use Rattle.frame.specs.Cases.{frame, idle, job, list_a}
use Rattle.frame.specs.Demand.{EveryExecutionGood, Real}
use Rattle.frame.specs.Execution.{before, late, next_mode, outran, ready, runs, slot_with, step, switch_to, waits_for}
use Rattle.frame.specs.Jobs.{Frame}
use Rattle.frame.specs.Search.{fault_at, fault_of, first_fault, found, late_job, needs_after, nothing, owed, reaches_budget, scan, search_from, switch_at, switches, try_switch}

abbrev P1 : Frame
P1 = frame 2 list_a [] ((1 ∷ 1 ∷ 0 ∷ 255 ∷ 255 ∷ []) ∷ (1 ∷ 1 ∷ 0 ∷ 0 ∷ 0 ∷ []) ∷ [])

abbrev P8 : Frame
P8 = frame 2 list_a [] ((1 ∷ 1 ∷ 0 ∷ 255 ∷ 255 ∷ []) ∷ (0 ∷ 0 ∷ 0 ∷ 255 ∷ 255 ∷ []) ∷ [])

abbrev P9 : Frame
P9 = frame 2 list_a ((0, 1) ∷ []) ((1 ∷ 1 ∷ 0 ∷ 255 ∷ 255 ∷ []) ∷ idle ∷ [])

abbrev P10 : Frame
P10 = frame 2 list_a [] ((1 ∷ 1 ∷ 0 ∷ 0 ∷ 255 ∷ []) ∷ (1 ∷ 1 ∷ 0 ∷ 0 ∷ 0 ∷ []) ∷ [])

-- job 0 with budgets 3, 3: no switch exists
abbrev unswitched : Frame
unswitched = frame 2 (job 0 5 1 3 3 ∷ job 0 3 0 2 2 ∷ []) [] ((1 ∷ 1 ∷ 0 ∷ 0 ∷ 0 ∷ []) ∷ idle ∷ [])

-- P3's pair: in HI the low job is dropped, and that is no fault
abbrev dropped : Frame
dropped = frame 2 (job 0 3 1 1 3 ∷ job 0 3 0 2 2 ∷ []) [] ((0 ∷ 1 ∷ 1 ∷ []) ∷ (0 ∷ 0 ∷ 0 ∷ []) ∷ [])

-- job 0 ended within CLO when job 1 switches: it needs nothing more
abbrev ended : Frame
ended = frame 2 (job 0 4 1 1 2 ∷ job 0 4 1 1 2 ∷ []) [] ((0 ∷ 1 ∷ 255 ∷ 255 ∷ []) ∷ (255 ∷ 0 ∷ 1 ∷ 1 ∷ []) ∷ [])

-- a switch takes effect in the next slot: the entry of table HI in its own slot is of no use
abbrev own_slot : Frame
own_slot = frame 2 (job 0 2 1 1 2 ∷ []) [] ((0 ∷ 255 ∷ []) ∷ (0 ∷ 255 ∷ []) ∷ [])

pub worked : (first_fault P1 ≡ nothing)
    × (first_fault P8 ≡ found (record { slot = 5; kind = late 0; chain = 2 ∷ [] }))
    × (first_fault P9 ≡ found (record { slot = 0; kind = before 1 0; chain = [] }))
    × (first_fault P10 ≡ nothing)
    × (first_fault unswitched ≡ nothing)
    × (first_fault dropped ≡ nothing)
    × (first_fault ended ≡ nothing)
    × (first_fault own_slot ≡ found (record { slot = 2; kind = late 0; chain = 0 ∷ [] }))
unfolding first_fault search_from switches switch_at try_switch reaches_budget scan fault_at fault_of owed late_job step slot_with outran runs ready waits_for next_mode find needs_after one_more switch_to
worked = (refl, refl, refl, refl, refl, refl, refl, refl)

-- three levels: a chain of two switches, behind which job 0 is late where table 2 has too little of it
abbrev three : List ℕ → Frame
three last =
    frame 3 (record { arrival = 0; deadline = 6; level = 2; budgets = 1 ∷ 2 ∷ 4 ∷ [] } ∷ record { arrival = 0; deadline = 6; level = 1; budgets = 1 ∷ 2 ∷ 2 ∷ [] } ∷ record { arrival = 0; deadline = 6; level = 0; budgets = 2 ∷ 2 ∷ 2 ∷ [] } ∷ []) []
    ((0 ∷ 1 ∷ 2 ∷ 2 ∷ 255 ∷ 255 ∷ []) ∷ (255 ∷ 1 ∷ 1 ∷ 0 ∷ 0 ∷ 255 ∷ []) ∷ last ∷ [])

pub worked_three : (first_fault (three (255 ∷ 255 ∷ 255 ∷ 255 ∷ 0 ∷ 0 ∷ [])) ≡ nothing)
    × (first_fault (three (255 ∷ 255 ∷ 255 ∷ 255 ∷ 255 ∷ 0 ∷ [])) ≡ found (record { slot = 6; kind = late 0; chain = 3 ∷ 0 ∷ [] }))
unfolding first_fault search_from switches switch_at try_switch reaches_budget scan fault_at fault_of owed late_job step slot_with outran runs ready waits_for next_mode find needs_after one_more switch_to
worked_three = (refl, refl)

-- P1: every execution is good
pub p1_good : EveryExecutionGood P1
unfolding all_below
p1_good = (demand3 P1 (well P1 tt tt tt)).yes_iff.0 worked.0

-- P8: a real execution is late at slot 5
pub p8_real : Real P8 (record { slot = 5; kind = late 0; chain = 2 ∷ [] })
unfolding all_below
p8_real = (demand3 P8 (well P8 tt tt tt)).no_real _ worked.1
