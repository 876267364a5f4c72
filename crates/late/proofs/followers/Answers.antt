-- An edge from a job that passes marks the job that it comes to.
-- Assumes nothing.
use Rattle.std.proofs.Common.{◌≡◌, ◌∙◌, sym, arith}
use Rattle.joblist.specs.Fields.{edges}
use Rattle.late.proofs.Marks.{marks_none, comes_yes, comes_no}
use Rattle.late.proofs.followers.Goals as goal
use Rattle.late.proofs.followers.Goals.{then-passes, else-passes}

pub loop-e-init : goal.loop-e-init
loop-e-init g c = λ test h. marks_none _

pub loop-e-preserved : goal.loop-e-preserved
loop-e-preserved g c = λ test h.
    let s = c.args.list.bytes.now in
    let l = c.loop-e in
    let p = rw c.jobs_of-n.ensures.0 at c.edge_from.ensures.0 in
    let a = c.args.list.accepted.edge l.e (omega arith) in
    let b = h c.edge_from.result c.passes.result (omega arith) c.passes.ensures in
    elim c.if-passes.branch [
      | then-passes w ↦
          let q = rw c.jobs_of-n.ensures.0 at w.edge_to.ensures.0 in
          rw (w.r-is, q) (comes_yes s test l.r l.e (l.invariant test h) (omega arith) (rw p at (sym b ∙ w.if-passes.true)))
      | else-passes w ↦ rw w.r-is (comes_no s test l.r l.e (l.invariant test h) (rw p at (sym b ∙ w.if-passes.false)))
    ]

pub returns : goal.returns
returns g c = λ test h j. let e : c.loop-e.e ≡ edges c.args.list.bytes.now = omega arith in rw e at (c.loop-e.invariant test h).same j
