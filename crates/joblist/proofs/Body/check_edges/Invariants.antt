-- At e the answer is what edges e to m - 1 still answer.
-- Assumes nothing.
use Rattle.std.proofs.Common.{◌≡◌}
use Rattle.basics.specs.Turns.{turns}
use Rattle.std.specs.Prelude.{Ok}
use Rattle.basics.specs.Chain.{◌⨾◌, each}
use Rattle.joblist.specs.Answer.{edge_answer}
use Rattle.joblist.proofs.Body.check_edges.Given as goal

abbrev pub invariant-loop-e : goal.invariant-loop-e
invariant-loop-e l = each l.self.edges (edge_answer l.self.bytes.now l.self.jobs) ≡ turns ◌⨾◌ (Ok tt) (edge_answer l.self.bytes.now l.self.jobs) l.self.edges l.e
