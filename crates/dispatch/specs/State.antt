-- The state: a plan and a run of it. A step changes the run by document 01's machine, and no plan.
-- Assumes nothing.
use Rattle.std.specs.Prelude.{ℕ, Bool, replicate}
use Rattle.basics.specs.Limits.{Limits}
use Rattle.parts.specs.declared.plan.Plan.{Plan}
use Rattle.parts.specs.Plan.{no_plan}
use Rattle.machine.specs.Run.{Run, joined, no_head}
use Rattle.machine.specs.Machine.{Ran, sound_on, fresh_run, step_on}
use Rattle.dispatch.specs.declared.state.State.{State}
use Rattle.dispatch.specs.declared.state.Stepped.{Stepped}

-- the run of a state, and the state of a plan and a run
abbrev pub run_of : State → Run
run_of s = joined s.head s.units s.done s.cut

abbrev pub state_with : Plan → Run → State
state_with p r = record { plan = p; head = r.head; units = r.units; done = r.done; cut = r.cut }

-- the same beside an answer
abbrev pub beside : Plan → Ran → Stepped
beside p x = record { answer = x.answer; state = state_with p x.run }

module _ (lim : Limits) where
  -- 37 is given exactly where this is no
  abbrev pub state_ok : State → Bool
  state_ok s = sound_on lim s.plan s.head s.units

  -- one step
  abbrev pub step_of : State → ℕ → Bool → Stepped
  step_of s tick e = beside s.plan (step_on lim s.plan (run_of s) tick e)

  -- at opening
  unfoldable pub fresh_of : Plan → ℕ → State
  fresh_of p first = state_with p (fresh_run lim p.counts.len first)

  -- all zero
  unfoldable pub no_state : State
  no_state =
      state_with (no_plan lim) (joined no_head (replicate lim.jobs 0) (replicate lim.jobs 0) (replicate lim.jobs 0))
