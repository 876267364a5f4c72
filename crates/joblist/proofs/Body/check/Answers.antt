-- The edges that were found good name jobs of the list.
-- Assumes nothing.
use Rattle.std.proofs.Common.{sym, ◌∙◌}
use Rattle.joblist.proofs.Rows.{edges_named}
use Rattle.joblist.proofs.Body.check.Goals as goal

pub is_cyclic-requires : goal.is_cyclic-requires
is_cyclic-requires c =
    edges_named c.args.self.now.bytes.now _ _ (sym c.check_edges.ensures ∙ c.in_ok-check_edges.was)
