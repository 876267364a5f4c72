-- Document 01, 'Worked on paper': P1 to P12 as one table of cases, each with its input and what it must give.
-- Assumes nothing.
use Rattle.std.specs.Prelude.{ℕ, ◌≡◌, false, List, [], ◌∷◌, ◌++◌, length, replicate, Ok, Err}
use Rattle.std.proofs.Math.Option.{Option, some, none}
use Rattle.basics.specs.Limits.{first_edition}
use Rattle.basics.specs.Marks.{idle, no_switch}
use Rattle.basics.specs.Put.{put}
use Rattle.joblist.specs.declared.Place.TheVariants.{AtEdge}
use Rattle.verdict.specs.Answer.{Verdict, check_of}
use Rattle.verdict.specs.Numbers.{answer_number, place_of}
use Rattle.verdict.specs.declared.Fault.TheVariants.{Late, Before}
use Rattle.verdict.specs.declared.Spot.{Spot}
use Rattle.verdict.specs.declared.Spot.TheVariants.{AtFault}
use Rattle.planfile.specs.Plan.{plan_of}
use Rattle.merge.specs.Build.{build_of, out_after}
use Rattle.merge.specs.Numbers.{built_number, built_place}
use Rattle.merge.specs.declared.BuildPlace.{BuildPlace}
use Rattle.merge.specs.declared.BuildPlace.TheVariants.{InList, AtSlot}
use Rattle.dispatch.specs.State.{step_of}
use Rattle.machine.specs.Numbers.{Answer, answer_number as step_number}
use Rattle.dispatch.specs.Open.{open_of}
use Rattle.dispatch.specs.declared.state.State.{State}
use Rattle.dispatch.specs.declared.state.Stepped.{Stepped}

-- a step: its tick, the paper's number, the job ordered, and the slot that the state stands at then
pub record Step : Type 0 where
  pub tick : ℕ
  pub number : ℕ
  pub order : Option ℕ
  pub slot : ℕ

-- a case: what is asked, and what it must give
pub data Case : Type 0 where
  -- a list is built into these two tables
  builds : List ℕ → List ℕ → List ℕ → Case
  -- a list is not built: the paper's number and place
  refuses : List ℕ → ℕ → BuildPlace → Case
  -- a list and two tables make this plan, byte for byte
  plans : List ℕ → List ℕ → List ℕ → List ℕ → Case
  -- a list and two tables get this answer of the check: the paper's number, and the place of a no
  checks : List ℕ → List ℕ → List ℕ → ℕ → Option Spot → Case
  -- a plan, opened with a first tick and stepped without a signal, steps so
  steps : List ℕ → ℕ → List Step → Case

-- the buffer that a build is lent: 64 bytes of AA, more than each plan here needs
abbrev pub lent : List ℕ
lent = replicate 64 0xAA

-- the place of a no
abbrev pub spot_of : Verdict → Option Spot
spot_of (Ok y) = none
spot_of (Err w) = some (place_of w)

-- the job ordered
abbrev pub order_in : Answer → Option ℕ
order_in (Ok j) = some j
order_in (Err w) = none

-- what a step with a tick shows
abbrev pub shown : ℕ → Stepped → Step
shown tick x =
    record { tick = tick; number = step_number x.answer; order = order_in x.answer; slot = x.state.head.slot }

-- the steps from a state on with the ticks of a list, without a signal
abbrev pub steps_from : State → List Step → List Step
steps_from s [] = []
steps_from s (r ∷ rs) =
    let x = step_of first_edition s r.tick false in
    shown r.tick x ∷ steps_from x.state rs

-- what a case says: the answer, and every byte of the lent buffer
abbrev pub Holds : Case → Type 0
Holds (builds s lo hi) =
    (build_of first_edition s (length lent) ≡ Ok (length (plan_of s lo hi))) × (out_after first_edition s lent ≡ put lent 0 (plan_of s lo hi))
Holds (refuses s number place) =
    (built_number (build_of first_edition s (length lent)) ≡ number) × (built_place (build_of first_edition s (length lent)) ≡ place) × (out_after first_edition s lent ≡ lent)
Holds (plans s lo hi bytes) = plan_of s lo hi ≡ bytes
Holds (checks s lo hi number place) = (answer_number (check_of first_edition s lo hi) ≡ number) × (spot_of (check_of first_edition s lo hi) ≡ place)
Holds (steps plan first rows) = steps_from (open_of first_edition plan first).state rows ≡ rows

-- every row holds
abbrev pub EachHolds : List Case → Type 0
EachHolds [] = Unit {0}
EachHolds (c ∷ cs) = Holds c × EachHolds cs

-- a list's bytes: n, m, L and a zero; then (a, d, level, CLO, CHI) of each job
abbrev pub head : ℕ → ℕ → ℕ → List ℕ
head n m l = n ∷ 0 ∷ m ∷ 0 ∷ l ∷ 0 ∷ 0 ∷ 0 ∷ []

abbrev pub job : ℕ → ℕ → ℕ → ℕ → ℕ → List ℕ
job a d v lo hi = a ∷ 0 ∷ d ∷ 0 ∷ lo ∷ 0 ∷ hi ∷ 0 ∷ v ∷ 0 ∷ []

-- two jobs and no edge, or one edge
abbrev pub two : ℕ → List ℕ → List ℕ → List ℕ
two l j k = head 2 0 l ++ j ++ k

abbrev pub two_with : ℕ → List ℕ → List ℕ → ℕ → ℕ → List ℕ
two_with l j k p q = head 2 1 l ++ j ++ k ++ (p ∷ q ∷ [])

-- list A
abbrev pub list_a : List ℕ
list_a = two 5 (job 0 5 1 1 3) (job 0 3 0 2 2)

abbrev pub plan_a : List ℕ
plan_a =
    0x02 ∷ 0x00 ∷ 0x00 ∷ 0x00 ∷ 0x05 ∷ 0x00 ∷ 0x00 ∷ 0x00
    ∷ 0x00 ∷ 0x00 ∷ 0x05 ∷ 0x00 ∷ 0x01 ∷ 0x00 ∷ 0x03 ∷ 0x00 ∷ 0x01 ∷ 0x00
    ∷ 0x00 ∷ 0x00 ∷ 0x03 ∷ 0x00 ∷ 0x02 ∷ 0x00 ∷ 0x02 ∷ 0x00 ∷ 0x00 ∷ 0x00
    ∷ 0x01 ∷ 0x01 ∷ 0x00 ∷ 0xFF ∷ 0xFF
    ∷ 0x01 ∷ 0x01 ∷ 0x00 ∷ 0x00 ∷ 0x00
    ∷ 0x26 ∷ 0x00 ∷ 0x00 ∷ 0x00 ∷ 0x54 ∷ 0x54 ∷ 0x50 ∷ 0x31 ∷ []

-- a slot without a job
abbrev pub o : ℕ
o = idle

abbrev pub all_idle : List ℕ
all_idle = o ∷ o ∷ o ∷ o ∷ o ∷ []

-- one step
abbrev pub step : ℕ → ℕ → Option ℕ → ℕ → Step
step tick number order slot = record { tick = tick; number = number; order = order; slot = slot }

abbrev pub table : List Case
table =
    -- P1: A, its tables, and its whole plan of 46 bytes
    builds list_a (1 ∷ 1 ∷ 0 ∷ o ∷ o ∷ []) (1 ∷ 1 ∷ 0 ∷ 0 ∷ 0 ∷ [])
    ∷ plans list_a (1 ∷ 1 ∷ 0 ∷ o ∷ o ∷ []) (1 ∷ 1 ∷ 0 ∷ 0 ∷ 0 ∷ []) plan_a
    -- P2, P3: job 0 with d = 4, with d = 3
    ∷ builds (two 4 (job 0 4 1 1 3) (job 0 3 0 2 2)) (1 ∷ 0 ∷ 1 ∷ o ∷ []) (1 ∷ 0 ∷ 0 ∷ 0 ∷ [])
    ∷ builds (two 3 (job 0 3 1 1 3) (job 0 3 0 2 2)) (0 ∷ 1 ∷ 1 ∷ []) (0 ∷ 0 ∷ 0 ∷ [])
    -- P4: also job 1 with d = 2. P5: document 000's Example 1
    ∷ refuses (two 3 (job 0 3 1 1 3) (job 0 2 0 2 2)) 22 (AtSlot 0)
    ∷ refuses (two 4 (job 0 4 1 2 4) (job 0 2 0 2 2)) 22 (AtSlot 0)
    -- P6: A with edge (0, 1). P7: edge (1, 0) instead
    ∷ builds (two_with 5 (job 0 5 1 1 3) (job 0 3 0 2 2) 0 1) (0 ∷ 1 ∷ 1 ∷ o ∷ o ∷ []) (0 ∷ 0 ∷ 0 ∷ o ∷ o ∷ [])
    ∷ refuses (two_with 5 (job 0 5 1 1 3) (job 0 3 0 2 2) 1 0) 8 (InList (AtEdge 0))
    -- P8: table HI by itself would do. P9: before a predecessor. P10: a spare entry
    ∷ checks list_a (1 ∷ 1 ∷ 0 ∷ o ∷ o ∷ []) (0 ∷ 0 ∷ 0 ∷ o ∷ o ∷ []) 10 (some (AtFault (Late 5 0 2)))
    ∷ checks (two_with 5 (job 0 5 1 1 3) (job 0 3 0 2 2) 0 1) (1 ∷ 1 ∷ 0 ∷ o ∷ o ∷ []) all_idle 12 (some (AtFault (Before 0 1 0 no_switch)))
    ∷ checks list_a (1 ∷ 1 ∷ 0 ∷ 0 ∷ o ∷ []) (1 ∷ 1 ∷ 0 ∷ 0 ∷ 0 ∷ []) 0 none
    -- P11: past 65535. P12, as request 2026-02 amends it, and 32,769 beside it: lost, half the counter away, stale, stale
    ∷ steps plan_a 65535 (step 65535 0 (some 1) 0 ∷ step 0 0 (some 1) 1 ∷ [])
    ∷ steps plan_a 0 (step 0 0 (some 1) 0 ∷ step 32767 31 none 0 ∷ [])
    ∷ steps plan_a 0 (step 0 0 (some 1) 0 ∷ step 32768 36 none 0 ∷ [])
    ∷ steps plan_a 0 (step 0 0 (some 1) 0 ∷ step 32769 33 none 0 ∷ [])
    ∷ steps plan_a 0 (step 0 0 (some 1) 0 ∷ step 65535 33 none 0 ∷ [])
    -- the last worked line: job 0 with budgets 3, 3; no switch exists
    ∷ checks (two 5 (job 0 5 1 3 3) (job 0 3 0 2 2)) (1 ∷ 1 ∷ 0 ∷ 0 ∷ 0 ∷ []) all_idle 0 none
    ∷ []
