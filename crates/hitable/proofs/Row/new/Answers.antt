-- A row with no run has no unit.
-- Assumes nothing.
use Rattle.std.proofs.Common.{refl, arith}
use Rattle.hitable.proofs.Laws.{row_empty}
use Rattle.hitable.proofs.Row.new.Goals as goal

pub returns : goal.returns
returns c = (row_empty _ 1024 1024 (omega arith), refl, refl)
