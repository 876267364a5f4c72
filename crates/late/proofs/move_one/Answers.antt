-- A held slot's unit moves; an empty slot stays as it is.
-- Assumes nothing.
use Rattle.std.proofs.Common.{◌∙◌, refl, sym}
use borrow.Author.Tests.{lt-ltb, le-ltb}
use Rattle.late.proofs.Moving.{move_held, move_idle}
use Rattle.late.proofs.move_one.Goals as goal

pub returns-then-j-jobs_of : goal.returns-then-j-jobs_of
returns-then-j-jobs_of c =
    let j = c.from-j.ensures in
    let h = rw (j, c.jobs_of.ensures.0) at (lt-ltb _ _ c.if-j-jobs_of.true) in
    sym (move_held c.args.list.bytes.now c.args.table.now c.args.own h ∙ rw (← j, ← c.target_of-x.ensures.0) refl)

pub returns-else-j-jobs_of : goal.returns-else-j-jobs_of
returns-else-j-jobs_of c = sym (move_idle _ _ _ (rw (c.from-j.ensures, c.jobs_of.ensures.0) at (le-ltb _ _ c.if-j-jobs_of.false)))
