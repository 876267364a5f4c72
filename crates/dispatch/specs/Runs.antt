-- Runs: one step for each tick and mark of a list, of any length.
-- Assumes nothing.
use Rattle.std.specs.Prelude.{ℕ, ◌+◌, ◌*◌, ◌%◌, ◌^◌, ◌<◌, ◌≡◌, ◌⊎◌, Bool, Ok, Err, List, [], ◌∷◌, length, get_or}
use Rattle.basics.specs.Limits.{Limits, first_edition}
use Rattle.parts.specs.declared.plan.Plan.{Plan}
use Rattle.machine.specs.declared.head.Head.{Head}
use Rattle.dispatch.specs.declared.state.State.{State}
use Rattle.dispatch.specs.declared.state.Stepped.{Stepped}
use Rattle.machine.specs.declared.answer.Why.{Why}
use Rattle.machine.specs.Machine.{refused_run}
use Rattle.machine.specs.Numbers.{Answer, number_of}
use Rattle.machine.specs.Run.{Run, with_head, with_last}
use Rattle.dispatch.specs.State.{run_of, state_with, step_of}

-- what a step is given: a tick, and whether the job ordered last signalled its end
pub record Given : Type 0 where
  pub tick : ℕ
  pub ended : Bool

-- the answers of a run by any step
unfoldable pub answers_by : (State → ℕ → Bool → Stepped) → State → List Given → List Answer
answers_by f s [] = []
answers_by f s (g ∷ r) = (f s g.tick g.ended).answer ∷ answers_by f (f s g.tick g.ended).state r

-- the state that it leaves
unfoldable pub state_by : (State → ℕ → Bool → Stepped) → State → List Given → State
state_by f s [] = s
state_by f s (g ∷ r) = state_by f (f s g.tick g.ended).state r

-- the run of document 01's machine
abbrev pub answers_of : Limits → State → List Given → List Answer
answers_of lim = answers_by (step_of lim)

abbrev pub state_of : Limits → State → List Given → State
state_of lim = state_by (step_of lim)

-- each of a list has a property
abbrev pub Each : {A : Type 0} → (A → Type 0) → List A → Type 0
Each P [] = Unit {0}
Each P (a ∷ l) = P a × Each P l

-- the ticks f, f + 1, .. modulo 65536, with these marks
unfoldable pub next_ticks : ℕ → List Bool → List Given
next_ticks f [] = []
next_ticks f (e ∷ es) = record { tick = f % 65536; ended = e } ∷ next_ticks (f + 1) es

-- orders up to the first refusal, and that is 34 or 35
abbrev pub OnlyJobsRefused : List Answer → Type 0
OnlyJobsRefused [] = Unit {0}
OnlyJobsRefused (Ok j ∷ l) = OnlyJobsRefused l
OnlyJobsRefused (Err w ∷ l) = (number_of w ≡ 34) ⊎ (number_of w ≡ 35)

-- what a refusal leaves: 31, 35 and 36 set the halted mark, the others change nothing
abbrev pub refused_of : Why → State → State
refused_of w s = state_with s.plan (refused_run w (run_of s))

-- d added to a tick and to the last tick taken, modulo 65536
abbrev pub later_given : ℕ → Given → Given
later_given d g = record { tick = (g.tick + d) % 65536; ended = g.ended }

abbrev pub later_run : ℕ → Run → Run
later_run d r = with_head r (with_last r.head ((r.head.last + d) % 65536))

abbrev pub later_state : ℕ → State → State
later_state d s = state_with s.plan (later_run d (run_of s))

-- n numbers of k bits each
pub record Words (k n : ℕ) (l : List ℕ) : Type 0 where
  pub many : length l ≡ n
  pub fits : (i : ℕ) → get_or l i 0 < 2 ^ k

-- what memory can hold in a plan's, a head's, a run's and a state's place
pub record HeldPlan (p : Plan) : Type 0 where
  pub len : p.counts.len < 2 ^ 16
  pub n : p.counts.n < 2 ^ 16
  pub m : p.counts.m < 2 ^ 16
  pub jobs : Words 16 (5 * first_edition.jobs) p.jobs
  pub edges : Words 8 (2 * first_edition.edges) p.edges
  pub tables : Words 8 (2 * first_edition.slots) p.tables

pub record HeldHead (h : Head) : Type 0 where
  pub slot : h.slot < 2 ^ 16
  pub last : h.last < 2 ^ 16
  pub ordered : h.ordered < 2 ^ 8
  pub high : h.high < 2 ^ 8
  pub halted : h.halted < 2 ^ 8
  pub spare : h.spare < 2 ^ 8

pub record HeldRun (r : Run) : Type 0 where
  pub head : HeldHead r.head
  pub units : Words 16 first_edition.jobs r.units
  pub done : Words 8 first_edition.jobs r.done
  pub cut : Words 8 first_edition.jobs r.cut

pub record Held (s : State) : Type 0 where
  pub plan : HeldPlan s.plan
  pub run : HeldRun (run_of s)
