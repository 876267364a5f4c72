-- What one job needs after the switch, written into its entry.
-- Assumes nothing.
use Rattle.std.proofs.Common.{◌∙◌, ◌&&◌, ℕ, [], ap₂, arith, cond, eqb, leb, not}
use lib.ListN.{length-set}
use Rattle.basics.specs.Units.{units_of}
use Rattle.frame.specs.TwoLevels.{needs_hi}
use Rattle.verdict.proofs.Fill.{fill_more}
use Rattle.verdict.proofs.OneSlot.{need_is}
use Rattle.verdict.specs.Inner.{square}
use Rattle.verdict.proofs.jobs.Jobs.needs_after.Goals as goal

pub loop-i-preserved : goal.loop-i-preserved
loop-i-preserved c =
    let a = c.args in
    let l = c.loop-i in
    let v = c.need_after.result in (
      simp length-set l.invariant.0,
      fill_more l.need l.i v (needs_hi (square a.self.now.list.now a.self.now.count []) a.had.now a.k) (omega arith) l.invariant.1
          (need_is a.self.now.list.now a.self.now.count a.had.now a.k l.i v (c.need_after.ensures ∙ ap₂ (λ (x y : ℕ). cond (not (eqb l.i a.k) && leb x (units_of a.had.now l.i)) x y) c.ordinary_of.ensures.0 c.high_of.ensures.0)),
    )
