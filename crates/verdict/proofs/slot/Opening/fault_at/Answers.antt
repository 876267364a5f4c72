-- The cases of the first fault.
-- Assumes nothing.
use Rattle.std.proofs.Common.{◌∙◌, sym, arith}
use Rattle.verdict.proofs.Told.{fault_before, fault_early, fault_late, fault_none, fault_not_owed}
use Rattle.verdict.proofs.slot.Opening.fault_at.Goals as goal

pub returns-in-Some : goal.returns-in-Some
returns-in-Some c =
    let a = c.args.self.now in
    fault_late a.jobs.list.now a.jobs.count a.jobs.before.now a.need.now a.slot a.mode a.mode_before a.switch a.had.now c.args.j _ (sym c.late_job.ensures ∙ c.in-Some.is)

pub returns-then-not-is_owed : goal.returns-then-not-is_owed
returns-then-not-is_owed c =
    let a = c.args.self.now in
    fault_not_owed a.jobs.list.now a.jobs.count a.jobs.before.now a.need.now a.slot a.mode a.mode_before a.switch a.had.now c.args.j (sym c.late_job.ensures ∙ c.in_default.is) (sym c.is_owed.ensures.owed ∙ c.if-not-is_owed.true)

pub returns-then-self-arrival_of : goal.returns-then-self-arrival_of
returns-then-self-arrival_of c =
    let a = c.args.self.now in
    fault_early a.jobs.list.now a.jobs.count a.jobs.before.now a.need.now a.slot a.mode a.mode_before a.switch a.had.now c.args.j (sym c.late_job.ensures ∙ c.in_default.is) (sym c.is_owed.ensures.owed ∙ c.if-not-is_owed.false) (omega (arith, c.arrival_of.ensures.0))

pub returns-in-Some-waits_for : goal.returns-in-Some-waits_for
returns-in-Some-waits_for c =
    let a = c.args.self.now in
    fault_before a.jobs.list.now a.jobs.count a.jobs.before.now a.need.now a.slot a.mode a.mode_before a.switch a.had.now c.args.j (sym c.late_job.ensures ∙ c.in_default.is) (sym c.is_owed.ensures.owed ∙ c.if-not-is_owed.false) (omega (arith, c.arrival_of.ensures.0)) _ (sym c.waits_for.ensures ∙ c.in-Some-waits_for.is)

pub returns-in-None : goal.returns-in-None
returns-in-None c =
    let a = c.args.self.now in
    fault_none a.jobs.list.now a.jobs.count a.jobs.before.now a.need.now a.slot a.mode a.mode_before a.switch a.had.now c.args.j (sym c.late_job.ensures ∙ c.in_default.is) (sym c.is_owed.ensures.owed ∙ c.if-not-is_owed.false) (omega (arith, c.arrival_of.ensures.0)) (sym c.waits_for.ensures ∙ c.in-None.is)
