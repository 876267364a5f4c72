-- Each job in turn.
-- Assumes nothing.
use Rattle.std.proofs.Common.{rules, tests, refl, ◌∙◌, arith}
use Rattle.std.proofs.lemmas.Iterator.{YieldsList-from_range}
use Rattle.std.proofs.lemmas.Iterator.Search.{all_from_yields_List}
use Rattle.basics.specs.Limits.{first_edition}
use Rattle.parts.specs.Scan.{job_ok, jobs_ok}
use Rattle.parts.proofs.Worst.{range_all}
use Rattle.parts.proofs.scan.jobs_ok.Goals as goal

pub returns : goal.returns
unfolding jobs_ok
returns c =
    all_from_yields_List (job_ok first_edition c.args.jobs.now) _ _ _ c.all.ensures.ran (YieldsList-from_range 0 c.args.n c.args.n refl (omega arith)) (λ x b q k. search (rules, tests))
    ∙ range_all (job_ok first_edition c.args.jobs.now) c.args.n
