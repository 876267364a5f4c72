-- What is found from slot `from` on is what is found from slot t on.
-- Assumes nothing.
use Rattle.std.proofs.Common.{◌≡◌, ◌-◌, ◌≤◌, length}
use Rattle.basics.specs.Limits.{first_edition}
use Rattle.basics.specs.Units.{units_of}
use Rattle.frame.specs.Execution.{state}
use Rattle.frame.specs.Search.{scan}
use Rattle.verdict.specs.Inner.{chain_of}
use Rattle.verdict.specs.Searched.{frame_in}
use Rattle.verdict.proofs.faults.Search.scan_from.Given as goal

abbrev pub invariant-slots : goal.invariant-slots
invariant-slots l =
    (l.slot ≤ l.self.slots) × (length l.had ≡ first_edition.jobs)
    × (scan (frame_in l.self) (units_of l.need) (l.self.slots - l.from) l.from (state l.mode 0 (chain_of l.switch) l.initial.had)
    ≡ scan (frame_in l.self) (units_of l.need) (l.self.slots - l.slot) l.slot (state l.mode l.mode_before (chain_of l.switch) l.had))

abbrev pub decreases-slots : goal.decreases-slots
decreases-slots l = l.self.slots - l.slot
