-- What is found behind all switches is what is found behind those from slot t on.
-- Assumes nothing.
use Rattle.std.proofs.Common.{◌≡◌, ◌-◌, ◌≤◌, replicate}
use Rattle.frame.specs.TwoLevels.{each_switch}
use Rattle.verdict.proofs.Switches.{lo_units}
use Rattle.verdict.specs.Searched.{frame_in}
use Rattle.verdict.specs.Inner.{edge_at}
use Rattle.verdict.proofs.faults.Search.switches_from.Given as goal

abbrev pub invariant-switches : goal.invariant-switches
invariant-switches l =
    (l.counts.slot ≤ l.self.slots) × (l.counts.table.now ≡ l.self.lo.now)
    × (each_switch (frame_in l.self) l.self.slots 0 (replicate l.self.jobs.count 0)
    ≡ each_switch (frame_in l.self) (l.self.slots - l.counts.slot) l.counts.slot (lo_units l.self.jobs.list.now l.self.jobs.count l.self.slots l.self.lo.now l.self.hi.now (edge_at l.self.jobs.before.now) l.counts.slot))

abbrev pub decreases-switches : goal.decreases-switches
decreases-switches l = l.self.slots - l.counts.slot
