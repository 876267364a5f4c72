-- Job j is marked where it has had fewer units than it takes.
-- Assumes nothing.
use Rattle.std.proofs.Common.{refl, arith}
use Rattle.late.proofs.Marks.{filled_none, filled_next}
use Rattle.late.proofs.undone_of.Goals as goal

pub loop-j-init : goal.loop-j-init
loop-j-init g c = λ most h. filled_none _

pub loop-j-preserved : goal.loop-j-preserved
loop-j-preserved g c = λ most h.
    let b = h c.loop-j.j c.takes.result (omega arith) c.takes.ensures in
    filled_next _ _ _ _ (c.loop-j.invariant most h) (omega arith) (rw (c.from.ensures, b) refl)

pub returns : goal.returns
returns g c = λ most h j k. (c.loop-j.invariant most h).same j (omega arith)
