-- A slot at its opening, as the code hands it on: its frame, what each job needs, and its state.
-- Assumes nothing.
use Rattle.std.specs.Prelude.{ℕ}
use Rattle.basics.specs.Units.{units_of}
use Rattle.frame.specs.Execution.{State, state}
use Rattle.frame.specs.Jobs.{Frame}
use Rattle.verdict.specs.Inner.{chain_of, square}
use Rattle.verdict.specs.declared.slot.Opening.{Opening}

-- the jobs and their edges, with no tables
abbrev pub frame_at : Opening → Frame
frame_at a = square a.jobs.list.now a.jobs.count a.jobs.before.now

-- what each job needs
abbrev pub need_at : Opening → ℕ → ℕ
need_at a = units_of a.need.now

-- the state of the execution
abbrev pub state_at : Opening → State
state_at a = state a.mode a.mode_before (chain_of a.switch) a.had.now
