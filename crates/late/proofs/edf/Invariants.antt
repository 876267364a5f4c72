-- At t the table below slot t is filled, and the units in it are counted.
-- Assumes nothing.
use Rattle.std.proofs.Common.{◌≡◌}
use Rattle.joblist.specs.Fields.{jobs}
use Rattle.late.specs.Late.{edf_at}
use Rattle.late.proofs.Units.{Counted}
use Rattle.late.proofs.edf.Given as goal

abbrev pub invariant-loop-t : goal.invariant-loop-t
invariant-loop-t l = (l.out ≡ edf_at l.list.bytes.now l.v l.initial.out l.t) × Counted (jobs l.list.bytes.now) l.had l.out l.t
