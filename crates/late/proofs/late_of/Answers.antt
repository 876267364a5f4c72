-- A slot at which no job is late is passed.
-- Assumes nothing.
use Rattle.std.proofs.Common.{◌≡◌, ◌∙◌, sym, refl, arith, length}
use Rattle.std.proofs.lemmas.Result.{err_from_is_err_and}
use Rattle.joblist.specs.Fields.{slots}
use Rattle.late.specs.Table.{marked}
use Rattle.late.specs.Late.{unfinished, late_answer}
use Rattle.late.proofs.Units.{counted_none, counted_next, counted_few}
use Rattle.late.proofs.Earliest.{marks_are}
use Rattle.late.proofs.Lateness.{late_same, onward_fine, onward_late, onward_last}
use Rattle.late.proofs.late_of.Goals as goal

pub loop-t-init : goal.loop-t-init
unfolding late_answer
loop-t-init c = (refl, counted_none _ _ (omega arith))

pub returns-in_err-late_in : goal.returns-in_err-late_in
returns-in_err-late_in c =
    let a = c.args in
    let s = a.list.bytes.now in
    let l = c.loop-t in
    let m = marks_are s a.v l.had a.table.now l.t c.unfinished_of.result l.invariant.1 c.unfinished_of.ensures in
    let i = sym (c.late_in.ensures ∙ late_same s (marked c.unfinished_of.result) (unfinished s a.v a.table.now l.t) l.t m) in
    let p = err_from_is_err_and c.from_residual.result c.from_residual.ensures.1 in
    rw (p.1, p.2) (sym (l.invariant.0 ∙ onward_late s a.v a.table.now l.t _ (omega arith) (i ∙ c.in_err-late_in.was)))

pub one_more-had-requires : goal.one_more-had-requires
one_more-had-requires c =
    let l = c.loop-t in
    (omega arith, λ i h. let b = counted_few _ _ _ _ l.invariant.1 i (omega arith) in omega arith)

pub loop-t-preserved : goal.loop-t-preserved
loop-t-preserved c =
    let a = c.args in
    let s = a.list.bytes.now in
    let l = c.loop-t in
    let m = marks_are s a.v l.had a.table.now l.t c.unfinished_of.result l.invariant.1 c.unfinished_of.ensures in
    let i = sym (c.late_in.ensures ∙ late_same s (marked c.unfinished_of.result) (unfinished s a.v a.table.now l.t) l.t m) in (
      l.invariant.0 ∙ onward_fine s a.v a.table.now l.t (omega arith) (i ∙ c.in_ok-late_in.was),
      rw (c.one_more-had.ensures, c.from.ensures, c.jobs_of-n.ensures.0) (counted_next _ _ _ _ l.invariant.1),
    )

pub returns : goal.returns
returns c =
    let a = c.args in
    let s = a.list.bytes.now in
    let l = c.loop-t in
    let e : l.t ≡ slots s = omega arith in
    let n : length a.table.now ≡ slots s = omega arith in
    let m = marks_are s a.v l.had a.table.now l.t c.unfinished_of-2.result l.invariant.1 c.unfinished_of-2.ensures in
    rw n at c.late_in-2.ensures
    ∙ late_same s (marked c.unfinished_of-2.result) (unfinished s a.v a.table.now (slots s)) (slots s) (rw e at m)
    ∙ sym (rw e at l.invariant.0 ∙ onward_last s a.v a.table.now)
