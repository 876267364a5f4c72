-- One slot on, with a switch or without one; the end; and a fault behind a switch.
-- Assumes nothing.
use Rattle.std.proofs.Common.{List, ℕ, ◌≡◌, ◌∙◌, ◌+◌, ◌-◌, ◌<◌, ap, ap₂, min, sym, arith}
use Rattle.basics.specs.Units.{units_of}
use Rattle.frame.specs.Execution.{state}
use Rattle.frame.specs.Search.{scan}
use Rattle.frame.specs.TwoLevels.{each_switch}
use Rattle.joblist.specs.Fields.{ordinary}
use Rattle.verdict.proofs.Switches.{each_end, each_no, each_start, each_yes, lo_units}
use Rattle.verdict.proofs.Told.{told_found, told_then}
use Rattle.verdict.specs.Count.{entries_in}
use Rattle.verdict.specs.Inner.{chain_of, edge_at, switches_at, told}
use Rattle.verdict.specs.Searched.{frame_in}
use Rattle.verdict.proofs.faults.Search.switches_from.Goals as goal

pub switches-init : goal.switches-init
switches-init c =
    let a = c.args.self.now in
    rw c.at_first-counts.ensures.slot (omega arith, c.at_first-counts.ensures.table, each_start a.jobs.list.now a.jobs.count a.slots a.lo.now a.hi.now (edge_at a.jobs.before.now))

pub switches-preserved-in_default : goal.switches-preserved-in_default
switches-preserved-in_default c =
    let a = c.args.self.now in
    let t = c.switches.counts.slot in
    let table = c.switches.invariant.1 in
    let had = c.units_before-had.result in
    let need = c.needs_after-need.result in
    let first = scan (frame_in a) (units_of need) (a.slots - (t + 1)) (t + 1) (state 1 0 (chain_of t) had) in
    let rest = each_switch (frame_in a) (a.slots - (t + 1)) (t + 1) (lo_units a.jobs.list.now a.jobs.count a.slots a.lo.now a.hi.now (edge_at a.jobs.before.now) (t + 1)) in
    let yes = ap (λ (x : List ℕ). switches_at a.jobs.list.now a.jobs.count x t c.entry_at-j.result) (sym table) ∙ sym c.switches_at-switches.ensures ∙ c.if-switches.true in
    let units : (i : ℕ) → i < a.jobs.count → units_of had i ≡ min (ordinary a.jobs.list.now i) (entries_in a.lo.now i (t + 1)) = λ i b. c.units_before-had.ensures i b ∙ ap₂ (λ (x : List ℕ) (y : ℕ). min (ordinary a.jobs.list.now i) (entries_in x i y)) (c.move_on.ensures.table ∙ table) c.move_on.ensures.slot in
    rw c.move_on.ensures.slot (
      omega arith,
      c.move_on.ensures.table ∙ table,
      c.switches.invariant.2 ∙ each_yes a.jobs.list.now a.jobs.count a.slots a.lo.now a.hi.now (edge_at a.jobs.before.now) t c.if-self-slot.false a.covered c.entry_at-j.result c.entry_at-j.ensures.0 had need yes (omega (arith, a.jobs.few)) (omega (arith, a.few)) units c.needs_after-need.ensures ∙ told_then first rest (sym c.scan_from.ensures ∙ c.in_default.is),
    )

pub switches-preserved : goal.switches-preserved
switches-preserved c =
    let a = c.args.self.now in
    let t = c.switches.counts.slot in
    let table = c.switches.invariant.1 in
    let no = ap (λ (x : List ℕ). switches_at a.jobs.list.now a.jobs.count x t c.entry_at-j.result) (sym table) ∙ sym c.switches_at-switches.ensures ∙ c.if-switches.false in
    rw c.move_on.ensures.slot (
      omega arith,
      c.move_on.ensures.table ∙ table,
      c.switches.invariant.2 ∙ each_no a.jobs.list.now a.jobs.count a.slots a.lo.now a.hi.now (edge_at a.jobs.before.now) t c.if-self-slot.false a.covered c.entry_at-j.result c.entry_at-j.ensures.0 no,
    )

pub returns-then-self-slot : goal.returns-then-self-slot
returns-then-self-slot c =
    let a = c.args.self.now in
    sym (ap told (c.switches.invariant.2 ∙ each_end a.jobs.list.now a.jobs.count a.slots a.lo.now a.hi.now (edge_at a.jobs.before.now) c.switches.counts.slot c.if-self-slot.true))

pub returns-in-Err : goal.returns-in-Err
returns-in-Err c =
    let a = c.args.self.now in
    let t = c.switches.counts.slot in
    let table = c.switches.invariant.1 in
    let had = c.units_before-had.result in
    let need = c.needs_after-need.result in
    let first = scan (frame_in a) (units_of need) (a.slots - (t + 1)) (t + 1) (state 1 0 (chain_of t) had) in
    let rest = each_switch (frame_in a) (a.slots - (t + 1)) (t + 1) (lo_units a.jobs.list.now a.jobs.count a.slots a.lo.now a.hi.now (edge_at a.jobs.before.now) (t + 1)) in
    let yes = ap (λ (x : List ℕ). switches_at a.jobs.list.now a.jobs.count x t c.entry_at-j.result) (sym table) ∙ sym c.switches_at-switches.ensures ∙ c.if-switches.true in
    let units : (i : ℕ) → i < a.jobs.count → units_of had i ≡ min (ordinary a.jobs.list.now i) (entries_in a.lo.now i (t + 1)) = λ i b. c.units_before-had.ensures i b ∙ ap₂ (λ (x : List ℕ) (y : ℕ). min (ordinary a.jobs.list.now i) (entries_in x i y)) (c.move_on.ensures.table ∙ table) c.move_on.ensures.slot in
    sym (ap told (c.switches.invariant.2 ∙ each_yes a.jobs.list.now a.jobs.count a.slots a.lo.now a.hi.now (edge_at a.jobs.before.now) t c.if-self-slot.false a.covered c.entry_at-j.result c.entry_at-j.ensures.0 had need yes (omega (arith, a.jobs.few)) (omega (arith, a.few)) units c.needs_after-need.ensures) ∙ told_found first rest _ (sym c.scan_from.ensures ∙ c.in-Err.is))
