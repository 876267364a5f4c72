-- 37, another refusal, or the next slot.
-- Assumes nothing.
use Rattle.std.proofs.Common.{sym, ◌∙◌}
use Rattle.machine.proofs.Facts.{ordered_room}
use Rattle.machine.proofs.Steps.{step_refuses_37, step_refuses, step_goes}
use Rattle.machine.proofs.step.step.Goals as goal

pub returns-then-not-sound-clause-is : goal.returns-then-not-sound-clause-is
returns-then-not-sound-clause-is c = step_refuses_37 _ _ _ _ _ _ _ _ _ c.refuse.ensures (sym c.if-not-sound.ensures)

pub live_test-requires : goal.live_test-requires
live_test-requires c = ordered_room _ _ _ _ (sym c.if-not-sound.ensures)

pub returns-in-Err-clause-is : goal.returns-in-Err-clause-is
returns-in-Err-clause-is c =
    step_refuses _ _ _ _ _ _ _ _ (sym c.if-not-sound.ensures) _ _ (sym c.in-Err.is ∙ c.live_test.ensures) c.refuse-in-Err.ensures

pub returns-in-Ok-clause-is : goal.returns-in-Ok-clause-is
returns-in-Ok-clause-is c =
    step_goes _ _ _ _ _ _ _ _ (sym c.if-not-sound.ensures) _ (sym c.in-Ok.is ∙ c.live_test.ensures) c.next_slot.ensures.is
