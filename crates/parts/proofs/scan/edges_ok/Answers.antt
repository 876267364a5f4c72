-- The largest end.
-- Assumes nothing.
use Rattle.std.proofs.Common.{◌-◌, ◌*◌, ltb, leb, max, take, refl, sym, ap, rules, tests, arith, ◌∙◌, get_or}
use Rattle.std.proofs.lemmas.Iterator.{YieldsList-from_slice}
use Rattle.std.proofs.lemmas.Iterator.Consumers.{fold_from_yields_List}
use Rattle.parts.specs.Scan.{edges_ok}
use Rattle.parts.proofs.Worst.{largest_ok, below_is, slice_all}
use Rattle.parts.proofs.scan.edges_ok.Goals as goal

pub returns : goal.returns
unfolding edges_ok
returns c =
    let n = c.args.n in
    let ends = take (2 * c.args.m) c.args.edges.now in
    let largest = fold_from_yields_List _ (λ a x. max a x) 0 c.fold-worst.result c.fold-worst.ensures.ran (YieldsList-from_slice ends (search rules)) (λ a x b q k. search (rules, tests)) in
    below_is n c.from.result c.requires.1 ∙ ap (λ r. leb r (n - 1)) (c.from.ensures ∙ largest)
    ∙ largest_ok (λ x. x) (λ x. ltb x n) (n - 1) ends (λ k l. sym (below_is n (get_or ends k 0) c.requires.1))
    ∙ slice_all (λ x. ltb x n) _ c.args.edges.now (2 * c.args.m) (omega arith) (λ i l. refl)
