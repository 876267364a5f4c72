-- The units of the slots from `own` on have moved.
-- Assumes nothing.
use Rattle.std.proofs.Common.{◌≡◌, ◌-◌}
use Rattle.joblist.specs.Fields.{slots}
use Rattle.late.specs.Late.{moved}
use Rattle.late.proofs.move_all.Given as goal

abbrev pub invariant-loop-own : goal.invariant-loop-own
invariant-loop-own l = l.table ≡ moved l.list.bytes.now l.initial.table (slots l.list.bytes.now - l.own)
