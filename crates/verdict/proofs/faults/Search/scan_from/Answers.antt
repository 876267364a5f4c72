-- One slot on, where the named job has a unit more or not; a fault; and the last slot.
-- Assumes nothing.
use Rattle.std.proofs.Common.{Bool, false, true, List, ℕ, ◌∙◌, ◌≡◌, ◌+◌, ◌-◌, ap, length, sym, arith}
use lib.ListN.{length-set}
use Rattle.basics.proofs.Units.{more_off}
use Rattle.basics.specs.Units.{one_more, units_of}
use Rattle.frame.specs.Execution.{state}
use Rattle.frame.specs.Search.{scan}
use Rattle.verdict.proofs.Scan.{more_set, named, scan_found, scan_last, scan_next}
use Rattle.verdict.specs.FrameOf.{frame_with}
use Rattle.verdict.specs.Inner.{chain_of, edge_at, told}
use Rattle.verdict.proofs.faults.Search.scan_from.Goals as goal
use Rattle.verdict.proofs.faults.Search.scan_from.Goals.{then-runs_at, else-runs_at}

pub slots-preserved : goal.slots-preserved
slots-preserved c =
    let a = c.args in
    let o = c.slots in
    let j = c.entry_at-j.result in
    let from = scan (frame_with a.self.now.jobs.list.now a.self.now.jobs.count a.self.now.slots a.self.now.lo.now a.self.now.hi.now (edge_at a.self.now.jobs.before.now)) (units_of a.need.now) (a.self.now.slots - (o.slot + 1)) (o.slot + 1) in
    let e = o.invariant.2 ∙ scan_next a.self.now.jobs.list.now a.self.now.jobs.count a.self.now.slots a.self.now.lo.now a.self.now.hi.now a.self.now.jobs.before.now a.need.now o.slot a.mode o.mode_before (chain_of a.switch) o.had j (named a.self.now.lo.now a.self.now.hi.now c.table-table.result.now a.mode o.slot c.entry_at-j.result c.table-table.ensures c.entry_at-j.ensures.0) c.fault_at.result c.fault_at.ensures c.if-self-slot.false c.in_default.is (omega arith) c.requires.steady in
    let k : (y : Bool) (v : List ℕ) → c.runs_at.result ≡ y → one_more y j o.had ≡ v
    → scan (frame_with a.self.now.jobs.list.now a.self.now.jobs.count a.self.now.slots a.self.now.lo.now a.self.now.hi.now (edge_at a.self.now.jobs.before.now)) (units_of a.need.now) (a.self.now.slots - a.from) a.from (state a.mode 0 (chain_of a.switch) a.units) ≡ from (state a.mode a.mode (chain_of a.switch) v) =
    λ y v p r. e ∙ ap (λ (z : List ℕ). from (state a.mode a.mode (chain_of a.switch) z)) (ap (λ (z : Bool). one_more z j o.had) (sym c.runs_at.ensures.runs ∙ p) ∙ r) in
    elim c.if-runs_at.branch [
      | then-runs_at w ↦ (omega arith, ap length w.had-is ∙ simp length-set o.invariant.1, k true c.if-runs_at.had w.if-runs_at.true (more_set j o.had ∙ sym w.had-is))
      | else-runs_at w ↦ (omega arith, ap length w.had-is ∙ o.invariant.1, k false c.if-runs_at.had w.if-runs_at.false (more_off j o.had ∙ sym w.had-is))
    ]

pub returns-in-Err : goal.returns-in-Err
returns-in-Err c =
    let a = c.args in
    let o = c.slots in
    sym (ap told o.invariant.2 ∙ scan_found a.self.now.jobs.list.now a.self.now.jobs.count a.self.now.slots a.self.now.lo.now a.self.now.hi.now a.self.now.jobs.before.now a.need.now o.slot a.mode o.mode_before (chain_of a.switch) o.had c.entry_at-j.result (named a.self.now.lo.now a.self.now.hi.now c.table-table.result.now a.mode o.slot c.entry_at-j.result c.table-table.ensures c.entry_at-j.ensures.0) c.fault_at.result c.fault_at.ensures (a.self.now.slots - o.slot) _ c.in-Err.is)

pub returns-then-self-slot : goal.returns-then-self-slot
returns-then-self-slot c =
    let a = c.args in
    let o = c.slots in
    sym (ap told o.invariant.2 ∙ scan_last a.self.now.jobs.list.now a.self.now.jobs.count a.self.now.slots a.self.now.lo.now a.self.now.hi.now a.self.now.jobs.before.now a.need.now o.slot a.mode o.mode_before (chain_of a.switch) o.had c.entry_at-j.result (named a.self.now.lo.now a.self.now.hi.now c.table-table.result.now a.mode o.slot c.entry_at-j.result c.table-table.ensures c.entry_at-j.ensures.0) c.fault_at.result c.fault_at.ensures c.if-self-slot.true c.in_default.is)
