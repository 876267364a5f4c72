-- A search of the jobs' numbers.
-- Assumes nothing.
use Rattle.std.proofs.Common.{rules, tests, refl, arith}
use Rattle.std.proofs.lemmas.Iterator.{YieldsList-from_range}
use Rattle.std.proofs.lemmas.Iterator.Search.{find_from_yields_List}
use Rattle.frame.specs.Search.{late_job}
use Rattle.verdict.proofs.Find.{first_below}
use Rattle.verdict.proofs.OneSlot.{late_test}
use Rattle.verdict.proofs.slot.Opening.late_job.Goals as goal

pub returns : goal.returns
unfolding late_job
returns c =
    let a = c.args.self.now in
    first_below (late_test a.jobs.list.now a.need.now a.had.now a.slot a.mode_before) a.jobs.count c.find.result (find_from_yields_List (late_test a.jobs.list.now a.need.now a.had.now a.slot a.mode_before) _ _ c.find.result c.find.ensures.ran (YieldsList-from_range 0 a.jobs.count a.jobs.count refl (omega arith)) (λ x b q k. search (rules, tests)))
