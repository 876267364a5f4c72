-- A ready job is weighed against the choice; another is passed.
-- Assumes nothing.
use Rattle.std.proofs.Common.{◌≡◌, ◌∙◌, sym, ap, arith}
use Rattle.basics.specs.Choice.{earliest}
use Rattle.basics.proofs.Choice.{earliest_zero, weighed, passed}
use Rattle.joblist.specs.Fields.{jobs, deadline}
use Rattle.late.specs.Table.{marked}
use Rattle.late.specs.Late.{ready}
use Rattle.late.proofs.choose.Goals as goal
use Rattle.late.proofs.choose.Goals.{then-ready_at, else-ready_at}

pub loop-j-init : goal.loop-j-init
loop-j-init c = record { job = tt; so_far = sym (earliest_zero _ _) }

pub sooner-requires : goal.sooner-requires
sooner-requires c = (omega arith, c.loop-j.invariant.job)

pub loop-j-preserved : goal.loop-j-preserved
unfolding ready
loop-j-preserved c =
    let l = c.loop-j in
    let r = rw (c.waiting_of-waiting.ensures l.j) at c.ready_at.ensures in
    elim c.if-ready_at.branch [
      | then-ready_at w ↦
          rw w.best-is
          (record { job = w.sooner.ensures.job; so_far = w.sooner.ensures.preferred ∙ weighed _ _ _ _ l.invariant.so_far (sym r ∙ w.if-ready_at.true) })
      | else-ready_at w ↦ rw w.best-is (record { job = l.invariant.job; so_far = passed _ _ _ _ l.invariant.so_far (sym r ∙ w.if-ready_at.false) })
    ]

pub returns : goal.returns
returns c =
    let s = c.args.list.bytes.now in
    let e : c.loop-j.j ≡ jobs s = omega arith in
    record {
      job = c.loop-j.invariant.job;
      earliest = c.loop-j.invariant.so_far ∙ ap (earliest (ready s (marked c.args.undone.now) c.args.t) (deadline s)) e;
    }
