-- One plan more is the last so far; with none left, it is the last of all.
-- Assumes nothing.
use Rattle.std.proofs.Common.{sym, ◌∙◌}
use Rattle.logwalk.proofs.Steps.{step_fits, step_last, step_ends}
use Rattle.logwalk.proofs.last_of.Goals as goal

pub loop-size-preserved : goal.loop-size-preserved
loop-size-preserved c =
    let found = sym c.size_at.ensures ∙ c.in-Some.is in
    let fits = step_fits _ _ _ _ found in
    (fits, fits, step_last _ _ _ _ found _ _ c.loop-size.invariant.2)

pub returns-clause-last : goal.returns-clause-last
returns-clause-last c = step_ends _ _ _ (sym c.size_at.ensures ∙ c.in_default.is) _ _ c.loop-size.invariant.2
