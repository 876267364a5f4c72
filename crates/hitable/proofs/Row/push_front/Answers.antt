-- The run before the head is the units.
-- Assumes nothing.
use Rattle.std.proofs.Common.{arith}
use Rattle.hitable.proofs.Laws.{row_front}
use Rattle.hitable.proofs.Row.push_front.Goals as goal

pub returns-then-count-gt0-clause-row : goal.returns-then-count-gt0-clause-row
returns-then-count-gt0-clause-row c =
    let r = c.args.self.now in
    row_front r.runs r.head r.tail c.args.unit c.args.count c.requires r.in_order (omega arith) (λ e. omega arith)
