-- After e edges, the square has each of them.
-- Assumes nothing.
use Rattle.std.proofs.Common.{◌≡◌, ◌<◌, ℕ, length}
use Rattle.joblist.specs.Fields.{edge_in}
use Rattle.verdict.specs.Inner.{edge_at, pairs}
use Rattle.verdict.proofs.jobs.fill_square.Given as goal

abbrev pub invariant-loop-e : goal.invariant-loop-e
invariant-loop-e l = (length l.square ≡ pairs) × ((p q : ℕ) → p < l.n → q < l.n → edge_at l.square p q ≡ edge_in l.list l.n l.e p q)
