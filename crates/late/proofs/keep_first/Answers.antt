-- The unit of slot t stays or goes, and is counted.
-- Assumes nothing.
use Rattle.std.proofs.Common.{◌≡◌, ◌∙◌, ◌+◌, sym, ap, arith, List, ℕ}
use Rattle.std.proofs.Math.Seq.{set-get_or}
use Rattle.joblist.specs.Fields.{jobs}
use Rattle.late.specs.Table.{entry}
use Rattle.late.proofs.Units.{Counted, counted_none, counted_next, counted_few}
use Rattle.late.proofs.First.{first_zero, first_past, first_stays, first_goes}
use Rattle.late.proofs.keep_first.Goals as goal
use Rattle.late.proofs.keep_first.Goals.{then-not-is_first, else-not-is_first}

pub loop-entry-init : goal.loop-entry-init
loop-entry-init c = (sym (first_zero _ _), counted_none _ _ (omega arith))

pub one_more-had-requires : goal.one_more-had-requires
one_more-had-requires c =
    let l = c.loop-entry in
    (omega arith, λ i h. let b = counted_few _ _ _ _ l.invariant.1 i (omega arith) in omega arith)

pub loop-entry-preserved : goal.loop-entry-preserved
loop-entry-preserved c =
    let a = c.args in
    let l = c.loop-entry in
    let j = c.from-j.ensures ∙ ap (λ (x : List ℕ). entry x l.entry-index) l.invariant.0 in
    let p : entry a.table.now l.entry-index ≡ c.from-j.result = sym (j ∙ first_past a.list.bytes.now a.table.now l.entry-index l.entry-index (omega arith)) in
    let n : Counted (jobs a.list.bytes.now) c.one_more-had.result a.table.now (l.entry-index + 1) =
    rw (c.one_more-had.ensures, c.jobs_of-n.ensures.0, ← p) (counted_next _ _ _ _ l.invariant.1) in
    elim c.if-not-is_first.branch [
      | then-not-is_first w ↦ (w.table-is ∙ rw l.invariant.0 (first_goes a.list.bytes.now a.table.now l.had l.entry-index _ l.invariant.1 j (sym c.is_first.ensures ∙ w.if-not-is_first.true)), n)
      | else-not-is_first w ↦ (w.table-is ∙ set-get_or l.table l.entry-index 0 ∙ l.invariant.0 ∙ first_stays a.list.bytes.now a.table.now l.had l.entry-index _ l.invariant.1 j (sym c.is_first.ensures ∙ w.if-not-is_first.false), n)
    ]
