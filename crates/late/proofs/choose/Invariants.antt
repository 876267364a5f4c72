-- At j it is the choice among the jobs below j.
-- Assumes nothing.
use Rattle.std.proofs.Common.{◌≡◌, ◌<◌, unwrap_or, IfSome}
use Rattle.basics.specs.Choice.{earliest}
use Rattle.basics.specs.Marks.{idle}
use Rattle.joblist.specs.Fields.{jobs, deadline}
use Rattle.late.specs.Table.{marked}
use Rattle.late.specs.Late.{ready}
use Rattle.late.proofs.choose.Given as goal

abbrev pub invariant-loop-j : goal.invariant-loop-j
invariant-loop-j l = record {
  job : IfSome l.best (λ b. b < jobs l.list.bytes.now);
  so_far : unwrap_or l.best idle ≡ earliest (ready l.list.bytes.now (marked l.undone) l.t) (deadline l.list.bytes.now) l.j;
}
