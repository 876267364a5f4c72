-- One edge more.
-- Assumes nothing.
use Rattle.std.proofs.Common.{Bool, false, ◌∙◌, refl, sym, arith}
use lib.ListN.{get_or-replicate, length-set}
use Rattle.verdict.proofs.Square.{edge_more, edge_zero}
use Rattle.verdict.specs.Inner.{pair_at, pairs}
use Rattle.verdict.proofs.jobs.fill_square.Goals as goal

pub loop-e-init : goal.loop-e-init
loop-e-init c =
    let a = c.args in
    (refl, λ p q h k. get_or-replicate {A = Bool} pairs (pair_at p q) false false (omega arith) ∙ sym (edge_zero a.list.now a.n p q))

pub loop-e-preserved : goal.loop-e-preserved
loop-e-preserved c =
    let a = c.args in
    let l = c.loop-e in
    let k = c.requires.named l.e c.loop-e-test.true in
    let f = c.edge_from-p.ensures.0 in
    let g = c.edge_to-q.ensures.0 in
    (simp length-set l.invariant.0, λ p q h i. edge_more a.list.now a.n l.e c.edge_from-p.result c.edge_to-q.result l.square f g (omega (arith, k.0, f)) (omega (arith, k.1, g)) c.requires.few l.invariant.0 p q h i (l.invariant.1 p q h i))
