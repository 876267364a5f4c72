-- The dispatcher, worked on paper beyond P11 and P12: row 37 part by part, an early end, a cut, a switch, 35, 36, 33, and the most that a count holds.
-- Assumes nothing.
use Rattle.std.specs.Prelude.{ℕ, ◌≡◌, Bool, true, false, List, [], ◌∷◌, ◌++◌, get_or, set, replicate}
use Rattle.std.proofs.Math.Option.{Option, some, none}
use Rattle.basics.specs.Limits.{first_edition}
use Rattle.basics.specs.Marks.{idle}
use Rattle.parts.specs.declared.plan.Plan.{Plan}
use Rattle.parts.specs.Plan.{plan_with}
use Rattle.machine.specs.Numbers.{answer_number}
use Rattle.machine.specs.Run.{with_slot, with_ordered}
use Rattle.dispatch.specs.declared.state.State.{State}
use Rattle.dispatch.specs.State.{fresh_of, step_of}
use Rattle.cases.specs.Table.{order_in}

-- P1's plan as a state holds it
abbrev pub plan_one : Plan
plan_one =
    plan_with (record { len = 5; n = 2; m = 0 }) (0 ∷ 5 ∷ 1 ∷ 3 ∷ 1 ∷ 0 ∷ 3 ∷ 2 ∷ 2 ∷ 0 ∷ replicate 310 0) (replicate 512 0)
    ((1 ∷ 1 ∷ 0 ∷ idle ∷ idle ∷ replicate 1019 0) ++ (1 ∷ 1 ∷ 0 ∷ 0 ∷ 0 ∷ replicate 1019 0))

-- opened with tick 0
abbrev pub opened : State
opened = fresh_of first_edition plan_one 0

-- a step: its tick and end mark, the paper's number, the job ordered, and the slot and the mode that it leaves
pub record Turn : Type 0 where
  pub tick : ℕ
  pub ended : Bool
  pub number : ℕ
  pub order : Option ℕ
  pub slot : ℕ
  pub high : ℕ

abbrev pub turn : ℕ → Bool → ℕ → Option ℕ → ℕ → ℕ → Turn
turn tick ended number order slot high = record { tick = tick; ended = ended; number = number; order = order; slot = slot; high = high }

-- what the steps of a list show, from a state on
abbrev pub turns_from : State → List Turn → List Turn
turns_from s [] = []
turns_from s (r ∷ rs) =
    let x = step_of first_edition s r.tick r.ended in
    turn r.tick r.ended (answer_number x.answer) (order_in x.answer) x.state.head.slot x.state.head.high
    ∷ turns_from x.state rs

-- runs of P1's plan from its opening on
abbrev pub runs : List (List Turn)
runs =
    -- job 1 ends after one unit: its second slot stays idle, and job 0 is not pulled forward
    (turn 0 false 0 (some 1) 0 0 ∷ turn 1 true 0 (some idle) 1 0 ∷ turn 2 false 0 (some 0) 2 0 ∷ [])
    -- job 1 is cut at CLO; job 0 passes CLO in slot 2, so that table HI names it in slots 3 and 4; past CHI it is 35, then 32
    ∷ (turn 0 false 0 (some 1) 0 0 ∷ turn 1 false 0 (some 1) 1 0 ∷ turn 2 false 0 (some 0) 2 0 ∷ turn 3 false 0 (some 0) 3 1
    ∷ turn 4 false 0 (some 0) 4 1 ∷ turn 5 false 35 none 4 1 ∷ turn 5 false 32 none 4 1 ∷ [])
    -- the jobs end in time: the next frame opens fresh in LO, and job 1 is ordered again
    ∷ (turn 0 false 0 (some 1) 0 0 ∷ turn 1 false 0 (some 1) 1 0 ∷ turn 2 true 0 (some 0) 2 0 ∷ turn 3 false 0 (some 0) 3 1
    ∷ turn 4 true 0 (some idle) 4 1 ∷ turn 5 false 0 (some 1) 0 0 ∷ [])
    -- 34 comes after the tick: with the same tick it is 30
    ∷ (turn 0 true 34 none 4 0 ∷ turn 65535 true 30 none 4 0 ∷ [])
    -- half the counter away is 36 where 34 would hold too, and where 35 would; then 32
    ∷ (turn 32767 true 36 none 4 0 ∷ turn 0 false 32 none 4 0 ∷ [])
    ∷ (turn 0 false 0 (some 1) 0 0 ∷ turn 1 false 0 (some 1) 1 0 ∷ turn 2 false 0 (some 0) 2 0 ∷ turn 3 false 0 (some 0) 3 1
    ∷ turn 4 false 0 (some 0) 4 1 ∷ turn 32772 false 36 none 4 1 ∷ turn 5 false 32 none 4 1 ∷ [])
    -- one tick further is stale, and the next tick is taken as if it had not come
    ∷ (turn 0 false 0 (some 1) 0 0 ∷ turn 32769 false 33 none 0 0 ∷ turn 1 false 0 (some 1) 1 0 ∷ [])
    ∷ []

-- the opened state with another plan, head or unit count
abbrev pub held : Plan → State
held p = fresh_of first_edition p 0

abbrev pub counts : ℕ → ℕ → ℕ → State
counts len n m = record { plan = plan_with (record { len = len; n = n; m = m }) plan_one.jobs plan_one.edges plan_one.tables; head = opened.head; units = opened.units; done = opened.done; cut = opened.cut }

abbrev pub number : ℕ → ℕ → State
number i x = held (plan_with plan_one.counts (set plan_one.jobs i x) plan_one.edges plan_one.tables)

abbrev pub edge : ℕ → ℕ → ℕ → State
edge m i x = held (plan_with (record { len = 5; n = 2; m = m }) plan_one.jobs (set plan_one.edges i x) plan_one.tables)

abbrev pub entry : ℕ → ℕ → State
entry i x = held (plan_with plan_one.counts plan_one.jobs plan_one.edges (set plan_one.tables i x))

abbrev pub slot : ℕ → State
slot x = record { plan = plan_one; head = with_slot opened.head x; units = opened.units; done = opened.done; cut = opened.cut }

abbrev pub ordered : ℕ → State
ordered x = record { plan = plan_one; head = with_ordered opened.head x; units = opened.units; done = opened.done; cut = opened.cut }

abbrev pub units : ℕ → ℕ → State
units j x = record { plan = plan_one; head = with_ordered opened.head 1; units = set opened.units j x; done = opened.done; cut = opened.cut }

-- row 37, part by part: each of these states is no state
abbrev pub bad : List State
bad =
    -- L, n and m outside their ranges; the slot not below L; the job ordered neither 255 nor below n
    counts 0 2 0 ∷ counts 1025 2 0 ∷ counts 5 0 0 ∷ counts 5 65 0 ∷ counts 5 2 257 ∷ slot 5 ∷ ordered 2 ∷ ordered 254
    -- a byte of table LO, and of table HI, at slot L-1
    ∷ entry 4 2 ∷ entry 4 254 ∷ entry 1028 2 ∷ entry 1028 254
    -- an edge from no job, and to no job; a level over 1; CLO, CHI and a unit count over 1,024
    ∷ edge 1 0 2 ∷ edge 1 1 2 ∷ number 9 2 ∷ number 7 1025 ∷ number 8 1025 ∷ units 1 1025 ∷ []

-- and each of these is one: what it looks at lies below L, n and m, and at the limits nothing is refused
abbrev pub good : List State
good = entry 5 2 ∷ entry 1029 2 ∷ edge 0 0 2 ∷ number 14 2 ∷ number 12 1025 ∷ units 2 1025 ∷ number 7 1024 ∷ number 8 1024 ∷ units 1 1024 ∷ []

-- the number that a step with tick 0 and no mark gets, of each
abbrev pub Says : (ℕ → Type 0) → List State → Type 0
Says P [] = Unit {0}
Says P (s ∷ l) = P (answer_number (step_of first_edition s 0 false).answer) × Says P l

-- every run is as it is written
abbrev pub EachRuns : List (List Turn) → Type 0
EachRuns [] = Unit {0}
EachRuns (r ∷ rs) = (turns_from opened r ≡ r) × EachRuns rs

-- job 1 ordered in slot 0 with x units had, and its count after the next step
abbrev pub counted : ℕ → ℕ
counted x =
    get_or (step_of first_edition (record { plan = plan_one; head = with_ordered (with_slot opened.head 0) 1; units = set opened.units 1 x; done = opened.done; cut = opened.cut }) 0 false).state.units 1 0
