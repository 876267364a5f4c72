-- One edge more marks the job that it comes to, where the job that it comes from is alive.
-- Assumes nothing.
use Rattle.std.proofs.Common.{ℕ, ap, false, refl, sym, ◌∙◌, arith}
use Rattle.basics.specs.Limits.{first_edition}
use Rattle.std.proofs.lemmas.List.{get_or-replicate}
use lib.ListN.{length-set}
use Rattle.basics.proofs.Below.{any_zero}
use Rattle.joblist.proofs.Steps.{mark_no, mark_yes}
use Rattle.joblist.proofs.Body.round.Goals as goal
use Rattle.joblist.proofs.Body.round.Goals.{then-alive-p, else-alive-p}

pub loop-e-init : goal.loop-e-init
loop-e-init c = (refl, λ j h. get_or-replicate first_edition.jobs j false false (omega arith) ∙ sym (any_zero _))

pub loop-e-preserved : goal.loop-e-preserved
loop-e-preserved c =
    let l = c.loop-e in
    let b = c.args.self.now in
    let s = b.bytes.now in
    let f = ap (λ (x : ℕ × ℕ). x.0) c.edge-p.ensures in
    let g = ap (λ (x : ℕ × ℕ). x.1) c.edge-p.ensures in
    let k = (c.requires l.e c.loop-e-test.true).1 in
    elim c.if-alive-p.branch [
      | then-alive-p w ↦ (
        rw w.next-is (simp length-set l.invariant.0),
        λ j h. rw (w.next-is, g) (mark_yes s b.jobs l.e c.args.alive l.next j (l.invariant.1 j h) (omega arith) (rw f at w.if-alive-p.true)),
      )
      | else-alive-p w ↦ (
        rw w.next-is l.invariant.0,
        λ j h. rw w.next-is (mark_no s b.jobs l.e c.args.alive l.next j (l.invariant.1 j h) (rw f at w.if-alive-p.false)),
      )
    ]
