-- The slots below t are copied.
-- Assumes nothing.
use Rattle.std.proofs.Common.{◌≡◌, ℕ, ◌<◌, get_or}
use Rattle.merge.proofs.copy_table.Given as goal

abbrev pub invariant-loop-t : goal.invariant-loop-t
invariant-loop-t l = (x : ℕ) → x < l.t → get_or l.to x 0 ≡ get_or l.from x 0
