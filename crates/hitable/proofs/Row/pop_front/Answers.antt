-- The front run loses its unit, or one of its further units.
-- Assumes nothing.
use Rattle.std.proofs.Common.{refl, arith}
use Rattle.hitable.proofs.Laws.{row_empty, row_last, row_less}
use Rattle.hitable.proofs.Row.pop_front.Goals as goal

pub returns-then-self-clause-row : goal.returns-then-self-clause-row
returns-then-self-clause-row c = let r = c.args.self.now in let e = row_empty r.runs r.head r.tail (omega arith) in (e, e)

pub returns-then-more-eq0-clause-row : goal.returns-then-more-eq0-clause-row
returns-then-more-eq0-clause-row c = let r = c.args.self.now in row_last r.runs r.head r.tail (omega arith) c.if-more-eq0.true

pub returns-else-more-eq0-clause-row : goal.returns-else-more-eq0-clause-row
returns-else-more-eq0-clause-row c =
    let r = c.args.self.now in row_less r.runs r.head r.tail _ _ (omega arith) (omega arith) refl refl c.if-more-eq0.false
