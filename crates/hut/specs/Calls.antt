-- The answer of each call, by the called crate's own number and place.
-- Assumes nothing.
use Rattle.std.specs.Prelude.{ℕ, Result, Ok, Err}
use Rattle.verdict.specs.Answer.{Verdict}
use Rattle.verdict.specs.Numbers.{answer_number}
use Rattle.planfile.specs.Numbers.{read_number, read_place, wrote_number, wrote_place}
use Rattle.planfile.specs.declared.ReadWhy.{ReadWhy}
use Rattle.planfile.specs.declared.Shape.{Shape}
use Rattle.planfile.specs.declared.WriteWhy.{WriteWhy}
use Rattle.merge.specs.Numbers.{built_number, built_place}
use Rattle.merge.specs.declared.BuildWhy.{BuildWhy}
use Rattle.machine.specs.Numbers.{answer_number as step_number, answer_place as step_place}
use Rattle.machine.specs.declared.answer.Why.{Why as StepWhy}
use Rattle.dispatch.specs.declared.open.Opened.{Opened}
use Rattle.dispatch.specs.declared.state.State.{State}
use Rattle.hut.specs.declared.Answer.{Answer}
use Rattle.hut.specs.declared.ReadResult.{ReadResult}
use Rattle.hut.specs.declared.Running.{Running}
use Rattle.hut.specs.Answer.{absent, list_place, spot_place, verdict_place, build_place, says, brought}

-- the check
unfoldable pub check_answer : Verdict → Answer
check_answer v = says (answer_number v) (verdict_place v)

-- n, m and L of a plan
abbrev pub counts_of : Result Shape ReadWhy → Shape
counts_of (Ok shape) = shape
counts_of (Err w) = record { jobs = absent; edges = absent; slots = absent }

-- what reading answers
unfoldable pub read_answer : Result Shape ReadWhy → Answer
read_answer a = says (read_number a) (spot_place (read_place a))

-- reading: the answer and the counts
unfoldable pub read_result : Result Shape ReadWhy → ReadResult
read_result a = record { answer = read_answer a; jobs = (counts_of a).jobs; edges = (counts_of a).edges; slots = (counts_of a).slots }

-- writing: on yes the plan's length
unfoldable pub write_answer : Result ℕ WriteWhy → Answer
write_answer w = record { number = wrote_number w; place = spot_place (wrote_place w); order = absent; length = brought w }

-- building: on yes the plan's length
unfoldable pub build_answer : Result ℕ BuildWhy → Answer
build_answer b = record { number = built_number b; place = build_place (built_place b); order = absent; length = brought b }

-- a step: on yes the job ordered, or the idle mark
unfoldable pub step_answer : Result ℕ StepWhy → Answer
step_answer a = record { number = step_number a; place = list_place (step_place a); order = brought a; length = absent }

-- an answer beside a state
abbrev pub beside : Answer → State → Running
beside a s = record { answer = a; state = s; rest = 0 }

-- opening: the reader's answer beside the state
unfoldable pub opened : Opened → Running
opened o = beside (read_answer o.answer) o.state
