-- Each edge in turn.
-- Assumes nothing.
use Rattle.std.proofs.Common.{rules, tests, refl, ◌∙◌, arith}
use Rattle.std.proofs.lemmas.Iterator.{YieldsList-from_range}
use Rattle.std.proofs.lemmas.Iterator.Search.{all_from_yields_List}
use Rattle.parts.specs.Scan.{ended_before, preds_done}
use Rattle.parts.proofs.Worst.{range_all}
use Rattle.parts.proofs.scan.preds_done.Goals as goal

pub returns : goal.returns
unfolding preds_done
returns c =
    let m = c.args.edges.m in
    all_from_yields_List (ended_before c.args.edges.ends.now c.args.done.now c.args.j) _ _ _ c.all.ensures.ran (YieldsList-from_range 0 m m refl (omega arith)) (λ x b q k. search (rules, tests))
    ∙ range_all (ended_before c.args.edges.ends.now c.args.done.now c.args.j) m
