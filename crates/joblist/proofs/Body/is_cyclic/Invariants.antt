-- After k rounds, a job is alive where a chain of k edges ends at it.
-- Assumes nothing.
use Rattle.std.proofs.Common.{◌≡◌, ◌<◌, ℕ, get_or, false, length}
use Rattle.basics.specs.Limits.{first_edition}
use Rattle.joblist.specs.Cycle.{walk}
use Rattle.joblist.proofs.Body.is_cyclic.Given as goal

abbrev pub invariant-loop-k : goal.invariant-loop-k
invariant-loop-k l = (length l.alive ≡ first_edition.jobs) × ((j : ℕ) → j < l.self.jobs → get_or l.alive j false ≡ walk l.self.bytes.now l.self.jobs l.self.edges l.k j)
