-- Booked, moved on, and ordered.
-- Assumes nothing.
use Rattle.machine.proofs.Facts.{ordered_room, booked_room, moved_room, order_room, edges_room}
use Rattle.machine.proofs.Steps.{next_is}
use Rattle.machine.proofs.step.next_slot.Goals as goal

pub book-booked-requires : goal.book-booked-requires
book-booked-requires c = ordered_room _ _ _ _ c.requires

pub move_on-moved-requires : goal.move_on-moved-requires
move_on-moved-requires c = booked_room _ _ _ _ _ c.requires c.book-booked.ensures.is

pub named-named-requires : goal.named-named-requires
named-named-requires c = moved_room _ _ _ _ _ c.requires c.book-booked.ensures.is _ _ c.move_on-moved.ensures.is

pub invariant_of-edges : goal.invariant_of-edges
invariant_of-edges c = let f = edges_room _ _ _ _ c.requires in record { few = f.0; from_jobs = f.1 }

pub order-requires : goal.order-requires
order-requires c =
    order_room _ _ _ _ _ c.requires c.book-booked.ensures.is _ _ c.move_on-moved.ensures.is _ c.named-named.ensures

pub returns-clause-is : goal.returns-clause-is
returns-clause-is c =
    next_is _ _ _ _ _ _ _ _ _ _ _ _ c.book-booked.ensures.is c.move_on-moved.ensures.is c.named-named.ensures c.order.ensures
