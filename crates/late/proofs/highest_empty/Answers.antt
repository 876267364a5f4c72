-- A slot that is held is passed.
-- Assumes nothing.
use Rattle.std.proofs.Common.{◌≡◌, ◌∙◌, sym, ap, arith}
use borrow.Author.Tests.{le-leb, lt-leb}
use Rattle.basics.specs.Find.{highest}
use Rattle.late.specs.Table.{empty}
use Rattle.basics.proofs.Find.{highest_zero}
use Rattle.late.proofs.Search.{highest_hit, highest_skip}
use Rattle.late.proofs.highest_empty.Goals as goal

pub returns-then-n-from : goal.returns-then-n-from
returns-then-n-from c =
    let e = rw (c.jobs_of-n.ensures.0, c.from.ensures) at (le-leb _ _ c.if-n-from.true) in
    sym (c.loop-x.invariant ∙ highest_hit _ _ _ c.loop-x-test.true e)

pub loop-x-preserved : goal.loop-x-preserved
loop-x-preserved c =
    let e = rw (c.jobs_of-n.ensures.0, c.from.ensures) at (lt-leb _ _ c.if-n-from.false) in
    c.loop-x.invariant ∙ highest_skip _ _ _ c.loop-x-test.true e

pub returns : goal.returns
returns c =
    let f = empty c.args.list.bytes.now c.args.table.now in
    let e : c.loop-x.x ≡ 0 = omega arith in
    sym (c.loop-x.invariant ∙ ap (highest f c.args.t) e ∙ highest_zero f c.args.t)
