-- The check's answer, and behind a fault the needs.
-- Assumes nothing.
use Rattle.std.proofs.Common.{◌∙◌, ap, ap₂, sym, arith}
use Rattle.std.specs.Prelude.{Err}
use Rattle.basics.specs.Limits.{first_edition}
use Rattle.verdict.specs.declared.Objection.{Objection}
use Rattle.verdict.specs.declared.Objection.TheVariants.{Bad}
use Rattle.witness.proofs.Night.{fillable, list_accepted, says, says_none}
use Rattle.witness.specs.Needs.{needs_behind, needs_to}
use Rattle.witness.proofs.witness.Goals as goal

pub returns-in_default : goal.returns-in_default
returns-in_default c =
    let a = c.args in
    c.without_needs.ensures ∙ says_none first_edition a.list.now a.lo.now a.hi.now c.check-verdict.result c.check-verdict.ensures (λ f e. c.in_default.not-Err (Bad f) e)

pub returns-in_default-objection : goal.returns-in_default-objection
returns-in_default-objection c =
    let a = c.args in
    c.without_needs-in_default-objection.ensures ∙ says_none first_edition a.list.now a.lo.now a.hi.now (Err c.in-Err.objection) (sym c.in-Err.is ∙ c.check-verdict.ensures)
    (λ f e. c.in_default-objection.not-Bad f (cc))

pub jobs_of-requires : goal.jobs_of-requires
jobs_of-requires c =
    let a = c.args in
    omega (arith, (list_accepted first_edition a.list.now a.lo.now a.hi.now (omega arith) c.in-Bad.fault (sym c.check-verdict.ensures ∙ c.in-Err.is ∙ ap Err c.in-Bad.is)).fits)

pub invariant_of-execution : goal.invariant_of-execution
invariant_of-execution c =
    let a = c.args in
    let y = sym c.check-verdict.ensures ∙ c.in-Err.is ∙ ap Err c.in-Bad.is in
    let f = fillable first_edition a.list.now a.lo.now a.hi.now (omega arith) _ y c.jobs_of.result c.switch_in.result c.jobs_of.ensures.0 c.switch_in.ensures in
    record { few = f.0; fits = f.1; known = f.2 }

pub returns : goal.returns
returns c =
    let a = c.args in
    says first_edition a.list.now a.lo.now a.hi.now (Err c.in-Err.objection) c.needs.result (sym c.in-Err.is ∙ c.check-verdict.ensures)
    (c.needs.ensures ∙ ap₂ (needs_to 64 a.list.now a.lo.now) c.switch_in.ensures c.jobs_of.ensures.0
    ∙ sym (ap (λ (w : Objection). needs_behind first_edition a.list.now a.lo.now (Err w)) c.in-Bad.is))
