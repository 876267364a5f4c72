-- The count of the entries before the slot, and one more.
-- Assumes nothing.
use Rattle.std.proofs.Common.{◌∙◌, sym, arith}
use borrow.Author.Tests.{eqb-true, le-ltb, ltb-true}
use Rattle.basics.proofs.Tests.{not_both}
use Rattle.verdict.proofs.Entries.{entries_in_most}
use Rattle.verdict.proofs.Named.{switch_count}
use Rattle.verdict.proofs.jobs.Jobs.switches_at.Goals as goal
use Rattle.verdict.proofs.jobs.Jobs.switches_at.Goals.{then-j-self, else-j-self, then-level_of-eq1, else-level_of-eq1}

pub overflow_add-result : goal.overflow_add-result
overflow_add-result c = omega (arith, c.entries_so_far.ensures, entries_in_most c.args.lo.now.table.now c.args.j c.args.lo.now.slot)

pub returns-then-ordinary_of-high_of : goal.returns-then-ordinary_of-high_of
returns-then-ordinary_of-high_of c =
    let a = c.args in
    let o = c.ordinary_of-then-ordinary_of-high_of in
    elim c.if-level_of-eq1.branch [
      | then-level_of-eq1 w ↦ elim c.if-j-self.branch [
        | then-j-self v ↦ switch_count a.self.now.list.now a.self.now.count a.lo.now.table.now a.lo.now.slot a.j v.if-j-self.true (sym v.level_of.ensures.0 ∙ eqb-true _ _ (sym v.value-is ∙ w.if-level_of-eq1.true)) (omega (arith, w.ordinary_of.ensures.0, w.high_of.ensures.0, ltb-true _ _ (sym w.value-is ∙ c.if-ordinary_of-high_of.true))) c.entries_so_far.result o.result c.entries_so_far.ensures o.ensures.0
        | else-j-self v ↦ absurd (not_both w.if-level_of-eq1.true (v.value-is ∙ le-ltb a.j a.self.now.count v.if-j-self.false))
      ]
      | else-level_of-eq1 w ↦ absurd (not_both c.if-ordinary_of-high_of.true (w.value-is ∙ w.if-level_of-eq1.false))
    ]
