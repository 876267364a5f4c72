-- 34, an idle slot, 35, or a job within CHI.
-- Assumes nothing.
use Rattle.std.proofs.Common.{Bool, not, ap, eq-eqb, ne_eqb}
use Rattle.basics.specs.Chain.{need}
use Rattle.machine.specs.declared.answer.Why.TheVariants.{PastHigh}
use Rattle.machine.specs.Machine.{end_test}
use Rattle.machine.proofs.step.end_test.Goals as goal

pub returns-then-ended : goal.returns-then-ended
unfolding end_test
returns-then-ended c = rw (eq-eqb _ _ c.if-ordered-eq-IDLE.true, c.if-ended.true)

pub returns-then-ordered-eq-IDLE : goal.returns-then-ordered-eq-IDLE
unfolding end_test
returns-then-ordered-eq-IDLE c = rw (eq-eqb _ _ c.if-ordered-eq-IDLE.true, c.if-ended.false)

pub returns-then-past_high : goal.returns-then-past_high
unfolding end_test
returns-then-past_high c =
    rw (ne_eqb _ _ c.if-ordered-eq-IDLE.false) (ap (λ (p : Bool). need (not p) (PastHigh c.args.ordered)) c.if-past_high.ensures)

pub returns : goal.returns
unfolding end_test
returns c =
    rw (ne_eqb _ _ c.if-ordered-eq-IDLE.false) (ap (λ (p : Bool). need (not p) (PastHigh c.args.ordered)) c.if-past_high.ensures)
