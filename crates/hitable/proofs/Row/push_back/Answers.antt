-- The run at the tail is the unit alone.
-- Assumes nothing.
use Rattle.std.proofs.Common.{arith}
use Rattle.hitable.proofs.Laws.{row_back}
use Rattle.hitable.proofs.Row.push_back.Goals as goal

pub returns-clause-row : goal.returns-clause-row
returns-clause-row c =
    let r = c.args.self.now in
    row_back r.runs r.head r.tail c.args.unit r.in_order (omega arith)
