-- Each count in turn.
-- Assumes nothing.
use Rattle.std.proofs.Common.{◌∙◌, leb, take, refl, rules, tests, arith}
use Rattle.std.proofs.lemmas.Iterator.{YieldsList-from_slice}
use Rattle.std.proofs.lemmas.Iterator.Search.{all_from_yields_List}
use Rattle.basics.specs.Limits.{first_edition}
use Rattle.parts.specs.Scan.{units_ok}
use Rattle.parts.proofs.Worst.{slice_all}
use Rattle.parts.proofs.scan.units_ok.Goals as goal

pub returns : goal.returns
unfolding units_ok
returns c =
    all_from_yields_List (λ u. leb u first_edition.budget) _ _ _ c.all.ensures.ran (YieldsList-from_slice (take c.args.n c.args.units.now) (search rules)) (λ x b q k. search (rules, tests))
    ∙ slice_all (λ u. leb u first_edition.budget) _ c.args.units.now c.args.n (omega arith) (λ i l. refl)
