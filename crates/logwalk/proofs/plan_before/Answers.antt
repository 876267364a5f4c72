-- The distance is read in the bytes up to `end`.
-- Assumes nothing.
use Rattle.std.proofs.Common.{◌-◌, ap, ◌∙◌, is_ok, arith}
use Rattle.std.specs.Bool.{then_some}
use Rattle.logwalk.specs.declared.Span.{Span}
use Rattle.logwalk.proofs.Back.{before_far, before_read}
use Rattle.logwalk.proofs.plan_before.Goals as goal

pub returns-in_err-start : goal.returns-in_err-start
returns-in_err-start c =
    let l = c.in_ok-before.ensures.lookup.0 in
    let t = c.in_ok-trailer.ensures in
    let d = rw t.1 at c.u32_at.ensures in
    c.from_residual-in_err-start.ensures ∙ before_far _ _ _ c.in_ok-before.before.now l.2 l.1 t.0 (omega (arith, d))

pub returns : goal.returns
returns c =
    let l = c.in_ok-before.ensures.lookup.0 in
    let t = c.in_ok-trailer.ensures in
    let d = rw t.1 at c.u32_at.ensures in
    let s = c.in_ok-start.ensures.1 in
    let plan : Span = record { start = c.in_ok-start.start; size = c.args.end - c.in_ok-start.start } in
    c.then_some.ensures ∙ ap (λ b. then_some b plan) (c.is_ok.ensures.value ∙ ap is_ok c.read.ensures)
    ∙ before_read _ _ _ c.in_ok-before.before.now l.2 l.1 _ t.0 (rw (t.1, d) at s)
