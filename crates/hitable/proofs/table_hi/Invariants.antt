-- At slot t the row and the table are as they should, and each slot has added at most one run at each end.
-- Assumes nothing.
use Rattle.std.proofs.Common.{◌≡◌, ◌+◌, ◌≤◌}
use Rattle.joblist.specs.Fields.{jobs}
use Rattle.late.proofs.Units.{Counted}
use Rattle.hitable.specs.TableHi.{Hi, hi_at}
use Rattle.hitable.specs.Runs.{owed}
use Rattle.hitable.proofs.table_hi.Given as goal

abbrev pub invariant-loop-t : goal.invariant-loop-t
invariant-loop-t l =
    let s = l.list.bytes.now in
    let now : Hi = record { row = owed l.row; table = l.out } in
    record {
      front : 1024 ≤ l.row.head + l.t;
      back : l.row.tail ≤ 1024 + l.t;
      count : Counted (jobs s) l.placed l.out l.t;
      made : hi_at s l.lo l.thi l.initial.out l.t ≡ now;
    }
