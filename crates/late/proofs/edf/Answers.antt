-- The choice fills slot t, and is counted.
-- Assumes nothing.
use Rattle.std.proofs.Common.{◌≡◌, ◌∙◌, sym, ap, arith, rules, unwrap_or}
use Rattle.basics.specs.Marks.{idle}
use Rattle.joblist.specs.Fields.{slots}
use Rattle.late.specs.Late.{edf_at}
use Rattle.late.proofs.Units.{counted_none, counted_put, counted_few}
use Rattle.late.proofs.Earliest.{edf_zero, edf_next, marks_are}
use Rattle.late.proofs.edf.Goals as goal

pub loop-t-init : goal.loop-t-init
loop-t-init c = (sym (edf_zero _ _ _), counted_none _ _ (omega arith))

pub one_more-had-requires : goal.one_more-had-requires
one_more-had-requires c =
    let l = c.loop-t in
    (omega arith, λ i h. let b = counted_few _ _ _ _ l.invariant.1 i (omega arith) in omega arith)

pub loop-t-preserved : goal.loop-t-preserved
loop-t-preserved c =
    let a = c.args in
    let s = a.list.bytes.now in
    let l = c.loop-t in
    let m = marks_are s a.v l.had l.out l.t c.unfinished_of.result l.invariant.1 c.unfinished_of.ensures in
    let u : c.map_or.result ≡ unwrap_or c.choose-job.result idle = search rules in
    let e = u ∙ c.choose-job.ensures.earliest in (
      rw e (edf_next _ _ _ (λ e h. (a.list.accepted.edge e h).from) l.out l.t c.unfinished_of.result l.invariant.0 m),
      rw (c.one_more-had.ensures, c.jobs_of-n.ensures.0, c.from.ensures) (counted_put _ _ _ _ l.invariant.1 _ (omega arith)),
    )

pub returns : goal.returns
returns c =
    let e : c.loop-t.t ≡ slots c.args.list.bytes.now = omega arith in
    c.loop-t.invariant.0 ∙ ap (edf_at c.args.list.bytes.now c.args.v c.args.out.now) e
