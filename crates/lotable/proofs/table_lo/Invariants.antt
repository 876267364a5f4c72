-- At a slot the tables are as they should, and no slot below it clashes.
-- Assumes nothing.
use Rattle.std.proofs.Common.{◌≡◌}
use Rattle.joblist.specs.Fields.{jobs}
use Rattle.late.proofs.Units.{Counted}
use Rattle.lotable.specs.TableLo.{Tables, tables_at, clash_in}
use Rattle.lotable.proofs.Laws.{onward}
use Rattle.lotable.proofs.table_lo.Given as goal

abbrev pub invariant-loop-slot : goal.invariant-loop-slot
invariant-loop-slot l =
    let s = l.list.bytes.now in
    let start : Tables = record { low = l.initial.low; high = l.initial.high; lo = l.initial.out } in
    let now : Tables = record { low = l.low; high = l.high; lo = l.out } in
    record {
      clash : clash_in s start ≡ onward s start l.slot;
      count : Counted (jobs s) l.placed l.out l.slot;
      tables : tables_at s start l.slot ≡ now;
    }
