-- 32, what the tick is refused for, or 34 and 35.
-- Assumes nothing.
use Rattle.std.proofs.Common.{sym, ap, ◌∙◌, rules}
use Rattle.machine.specs.Machine.{live_test, tick_test}
use Rattle.parts.proofs.Marks.{mark_clear, mark_set}
use Rattle.machine.proofs.step.live_test.Goals as goal

pub returns-then-head-ne0 : goal.returns-then-head-ne0
unfolding live_test
returns-then-head-ne0 c = simp (mark_set _ c.if-head-ne0.true)

pub returns-in_err-tick_test : goal.returns-in_err-tick_test
unfolding live_test
returns-in_err-tick_test c =
    rw (mark_clear _ c.if-head-ne0.false, ap tick_test (sym c.said.ensures) ∙ sym c.tick_test.ensures ∙ c.in_err-tick_test.was) (search rules)

pub returns : goal.returns
unfolding live_test
returns c =
    rw (mark_clear _ c.if-head-ne0.false, ap tick_test (sym c.said.ensures) ∙ sym c.tick_test.ensures ∙ c.in_ok-tick_test.was) c.end_test.ensures
