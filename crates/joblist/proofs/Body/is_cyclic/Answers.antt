-- One round more is one edge more at the end of a chain.
-- Assumes nothing.
use Rattle.std.proofs.Common.{◌≡◌, true, false, refl, sym, ◌∙◌, arith}
use borrow.Author.Rules.{rules}
use Rattle.std.proofs.lemmas.List.{get_or-replicate}
use Rattle.basics.specs.Limits.{first_edition}
use Rattle.basics.proofs.Below.{any_same}
use Rattle.joblist.specs.Cycle.{cyclic}
use Rattle.joblist.proofs.Steps.{any_alive, walk_zero, walk_step, reached_same}
use Rattle.joblist.proofs.Body.is_cyclic.Goals as goal

pub loop-k-init : goal.loop-k-init
loop-k-init c = (refl, λ j h. get_or-replicate first_edition.jobs j true false (omega arith) ∙ sym (walk_zero _ _ _ j))

pub loop-k-preserved : goal.loop-k-preserved
loop-k-preserved c =
    let b = c.args.self.now in
    (search rules, λ j h. c.round-alive.ensures j h ∙ reached_same b.bytes.now b.jobs b.edges c.requires _ _ c.loop-k.invariant.1 j ∙ sym (walk_step _ _ _ _ j))

pub returns : goal.returns
unfolding cyclic
returns c =
    let b = c.args.self.now in
    let alive = c.loop-k in
    let last : alive.k ≡ b.jobs = omega arith in
    c.contains.ensures.value
    ∙ any_alive alive.alive b.jobs (let f = b.few in omega arith)
    ∙ any_same _ _ b.jobs (λ j h. rw last at (alive.invariant.1 j h))
