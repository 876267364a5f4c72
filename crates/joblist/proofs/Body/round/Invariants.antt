-- After e edges, a job is marked where one of them comes to it from a job that is alive.
-- Assumes nothing.
use Rattle.std.proofs.Common.{◌≡◌, ◌<◌, ℕ, get_or, false, length}
use Rattle.basics.specs.Limits.{first_edition}
use Rattle.joblist.specs.Cycle.{reached}
use Rattle.joblist.proofs.Body.round.Given as goal

abbrev pub invariant-loop-e : goal.invariant-loop-e
invariant-loop-e l = (length l.next ≡ first_edition.jobs) × ((j : ℕ) → j < l.self.jobs → get_or l.next j false ≡ reached l.self.bytes.now l.self.jobs l.e (λ i. get_or l.alive i false) j)
