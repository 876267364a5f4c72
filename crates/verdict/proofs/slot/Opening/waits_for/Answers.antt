-- A search of the jobs' numbers.
-- Assumes nothing.
use Rattle.std.proofs.Common.{rules, tests, refl, arith}
use Rattle.std.proofs.lemmas.Iterator.{YieldsList-from_range}
use Rattle.std.proofs.lemmas.Iterator.Search.{find_from_yields_List}
use Rattle.frame.specs.Execution.{waits_for}
use Rattle.verdict.proofs.Find.{first_below}
use Rattle.verdict.proofs.OneSlot.{wait_test}
use Rattle.verdict.proofs.slot.Opening.waits_for.Goals as goal

pub returns : goal.returns
unfolding waits_for
returns c =
    let a = c.args.self.now in
    first_below (wait_test a.jobs.before.now a.need.now a.had.now c.args.j) a.jobs.count c.find.result (find_from_yields_List (wait_test a.jobs.before.now a.need.now a.had.now c.args.j) _ _ c.find.result c.find.ensures.ran (YieldsList-from_range 0 a.jobs.count a.jobs.count refl (omega arith)) (λ x b q k. search (rules, tests)))
