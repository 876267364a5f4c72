use Rattle.std.proofs.Common.{◌∙◌}
use Rattle.text.proofs.Slices.{same_pointwise}
use Rattle.text.proofs.slice.same.Goals as goal

pub returns : goal.returns
returns c = c.eq.ensures ∙ same_pointwise _ _
