use Rattle.std.proofs.Common.{sym, ◌∙◌}
use borrow.Author.Tests.{eqb-true, eqb-false}
use Rattle.text.proofs.Counting.{number_none, number_some, number_more, number_stops, number_ends}
use Rattle.text.proofs.read.number.Goals as goal

pub returns-then-is_empty : goal.returns-then-is_empty
returns-then-is_empty c = number_none _ _ (eqb-true _ _ (sym c.is_empty.ensures ∙ c.if-is_empty.true))

pub loop-x-init : goal.loop-x-init
loop-x-init c = number_some _ _ (eqb-false _ _ (sym c.is_empty.ensures ∙ c.if-is_empty.false))

pub returns-in_err-n : goal.returns-in_err-n
returns-in_err-n c =
    c.from_residual.ensures ∙ sym (c.loop-x.invariant ∙ number_stops _ _ _ c.loop-x.x-index c.loop-x-test.true (sym c.more.ensures ∙ c.in_err-n.was))

pub loop-x-preserved : goal.loop-x-preserved
loop-x-preserved c =
    c.loop-x.invariant ∙ number_more _ _ _ _ c.loop-x.x-index c.loop-x-test.true (sym c.more.ensures ∙ c.in_ok-n.was)

pub returns : goal.returns
returns c = sym (c.loop-x.invariant ∙ number_ends _ _ _ c.loop-x.x-index c.loop-x-test.false)
