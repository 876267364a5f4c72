-- A job above every byte has none; and a byte's entries are counted as a list's elements.
-- Assumes nothing.
use Rattle.std.proofs.Common.{ℕ, ◌≡◌, ◌∙◌, ◌<◌, ap₂, arith, count_by, eqb, length, min, sym, take}
use Rattle.verdict.proofs.Entries.{entries_counted, none_before}
use Rattle.verdict.specs.Count.{entries_in}
use Rattle.verdict.proofs.count.entries_before.Goals as goal

pub returns-in_default : goal.returns-in_default
unfolding entries_in
returns-in_default c =
    let a = c.args in
    let over : 255 < a.job = omega (arith, c.in_default.ensures) in
    sym (none_before a.table.now (λ i. omega (arith, c.type_inv.table i)) a.job over (min a.slot (length a.table.now)))

pub returns : goal.returns
unfolding entries_in
returns c =
    let a = c.args in
    let named : c.in-Ok.entry ≡ a.job = omega (arith, c.in-Ok.ensures.1) in
    c.entries_by_block.ensures ∙ ap₂ (λ (e k : ℕ). count_by (λ x. eqb x e) (take k a.table.now)) named c.min.ensures
    ∙ sym (entries_counted a.table.now a.job (min a.slot (length a.table.now)) (omega arith))
