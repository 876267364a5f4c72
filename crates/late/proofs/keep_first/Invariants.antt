-- Below slot t only first units stay, and from t on the table is as it was.
-- Assumes nothing.
use Rattle.std.proofs.Common.{◌≡◌}
use Rattle.joblist.specs.Fields.{jobs}
use Rattle.late.specs.Late.{first_units}
use Rattle.late.proofs.Units.{Counted}
use Rattle.late.proofs.keep_first.Given as goal

abbrev pub invariant-loop-entry : goal.invariant-loop-entry
invariant-loop-entry l = (l.table ≡ first_units l.list.bytes.now l.initial.table l.entry-index) × Counted (jobs l.list.bytes.now) l.had l.initial.table l.entry-index
