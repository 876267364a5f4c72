-- The table as filled is what is checked and moved.
-- Assumes nothing.
use Rattle.late.specs.Late.{late_table}
use Rattle.late.proofs.late_table.Goals as goal

pub returns : goal.returns
unfolding late_table
returns c = (rw (← c.edf.ensures) c.late_of-r.ensures, rw (← c.edf.ensures) c.move_all.ensures)
