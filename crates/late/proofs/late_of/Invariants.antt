-- At t the slots below t answer Fine.
-- Assumes nothing.
use Rattle.std.proofs.Common.{◌≡◌}
use Rattle.joblist.specs.Fields.{jobs}
use Rattle.late.specs.Late.{late_answer}
use Rattle.late.proofs.Units.{Counted}
use Rattle.late.proofs.Lateness.{onward}
use Rattle.late.proofs.late_of.Given as goal

abbrev pub invariant-loop-t : goal.invariant-loop-t
invariant-loop-t l = (late_answer l.list.bytes.now l.v l.table ≡ onward l.list.bytes.now l.v l.table l.t) × Counted (jobs l.list.bytes.now) l.had l.table l.t
