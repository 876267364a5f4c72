-- Document 01, 'What the check says': the search for the first fault, in the document's order.
-- Assumes nothing.
use Rattle.std.specs.Prelude.{Bool, true, false, not, ◌&&◌, List, ◌∷◌, ℕ, zero, suc, leb, ltb, eqb}
use Rattle.std.proofs.Math.Option.{Option, some, none}
use Rattle.basics.specs.Find.{find}
use Rattle.basics.specs.Units.{units_of, one_more}
use Rattle.frame.specs.Jobs.{Frame}
use Rattle.frame.specs.Execution.{State, state, Badness, late, early, before, next_mode, opened, waits_for, runs, step}

-- a fault: its slot, what is bad there, and the slots that switched before it, latest first
pub record Fault : Type 0 where
  pub slot : ℕ
  pub kind : Badness
  pub chain : List ℕ

pub data Finding : Type 0 where
  nothing : Finding
  found : Fault → Finding

-- the first fault found leaves the search and is the answer
abbrev pub or_else : Finding → Finding → Finding
or_else (found f) b = found f
or_else nothing b = b

abbrev pub fault_with : ℕ → State → Badness → Fault
fault_with t s w = record { slot = t; kind = w; chain = s.chain }

abbrev pub late_if : ℕ → State → Option ℕ → Finding
late_if t s none = nothing
late_if t s (some j) = found (fault_with t s (late j))

abbrev pub early_if : ℕ → State → ℕ → Bool → Finding
early_if t s j false = nothing
early_if t s j true = found (fault_with t s (early j))

abbrev pub before_if : ℕ → State → ℕ → Bool → Option ℕ → Finding
before_if t s j false o = nothing
before_if t s j true none = nothing
before_if t s j true (some p) = found (fault_with t s (before j p))

module _ (F : Frame) where
  module _ (e : ℕ → ℕ) where
    -- the lowest job with d = t that is unfinished, jobs below the mode of the slot before aside
    unfoldable pub late_job : ℕ → ℕ → List ℕ → Option ℕ
    late_job t q u =
        find (λ (i : ℕ). let x = leb q (F.level i) && ltb (units_of u i) (e i) in eqb (F.deadline i) t && x) F.n 0

    -- j is a job, not below the mode, and unfinished
    unfoldable pub owed : ℕ → List ℕ → ℕ → Bool
    owed m u j =
        let x = leb m (F.level j) && ltb (units_of u j) (e j) in
        ltb j F.n && x

    -- late, too early, before a predecessor: the lowest job or predecessor first
    unfoldable pub fault_of : ℕ → State → ℕ → Finding
    fault_of t s j =
        let b = before_if t s j (owed s.mode s.had j) (waits_for F e s.had j) in
        let x = or_else (early_if t s j (owed s.mode s.had j && ltb t (F.arrival j))) b in
        or_else (late_if t s (late_job t s.mode_before s.had)) x

    -- the first fault at the opening of slot t
    unfoldable pub fault_at : ℕ → State → Finding
    fault_at t s = fault_of t s (F.table s.mode t)

    -- slots rise: slot t and k more
    unfoldable pub scan : ℕ → ℕ → State → Finding
    scan zero t s = fault_at t s
    scan (suc k) t s =
        let r = scan k (suc t) (step F e t s) in
        or_else (fault_at t s) r

  -- after a switch of k to mode m, a job other than k that had its units is finished; all others need their budget in m
  unfoldable pub needs_after : (ℕ → ℕ) → List ℕ → ℕ → ℕ → ℕ → ℕ
  needs_after e u k m i = elim (not (eqb i k) && leb (e i) (units_of u i)) [ true ↦ e i | false ↦ F.budget i m ]

  -- a search of k slots more with the needs e, from slot t and the state at its opening
  abbrev pub Rest : Type 0
  Rest = ℕ → (ℕ → ℕ) → ℕ → State → Finding

  -- the job j runs in slot t and comes to its budget for the mode
  unfoldable pub reaches_budget : (ℕ → ℕ) → ℕ → State → ℕ → Bool
  reaches_budget e t s j = runs F e t s.mode s.had j && eqb (suc (units_of s.had j)) (F.budget j s.mode)

  -- from the slot after the switch
  unfoldable pub try_switch : Rest → ℕ → (ℕ → ℕ) → ℕ → State → ℕ → Bool → Option ℕ → Finding
  try_switch rest k e t s j false o = nothing
  try_switch rest k e t s j true none = nothing
  try_switch rest k e t s j true (some m) =
      rest k (needs_after e (one_more true j s.had) j m) (suc t) (state m s.mode (t ∷ s.chain) (one_more true j s.had))

  -- the switch of slot t, where there is one
  unfoldable pub switch_at : Rest → ℕ → (ℕ → ℕ) → ℕ → State → ℕ → Finding
  switch_at rest k e t s j = try_switch rest k e t s j (reaches_budget e t s j) (next_mode F j s.mode)

  -- each switch, by rising switch slot
  unfoldable pub switches : Rest → Rest
  switches rest zero e t s = nothing
  switches rest (suc k) e t s =
      let r = switches rest k e (suc t) (step F e t s) in
      or_else (switch_at rest k e t s (F.table s.mode t)) r

  -- the slots of the mode, then its switches, each with the deeper switches right after it; at most c modes more
  unfoldable pub search_from : ℕ → Rest
  search_from zero k e t s = nothing
  search_from (suc c) k e t s =
      let r = switches (search_from c) k e t s in
      or_else (scan e k t s) r

  -- the faults are sought in table LO with every job using CLO; then behind each switch
  unfoldable pub first_fault : Finding
  first_fault = search_from F.K F.L (λ (j : ℕ). F.budget j 0) 0 (opened F)
