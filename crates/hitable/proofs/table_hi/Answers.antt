-- One slot more: the unit is placed and counted, and what it is owed further goes to the front.
-- Assumes nothing.
use Rattle.std.proofs.Common.{◌≡◌, ◌∙◌, ◌+◌, sym, ap, arith, List, ℕ, set}
use Rattle.joblist.specs.Fields.{jobs, slots}
use Rattle.late.proofs.Units.{Counted, counted_none, counted_put, counted_few}
use Rattle.hitable.specs.TableHi.{Hi, hi_at}
use Rattle.hitable.proofs.Laws.{hi_zero, owing_counted, hi_next}
use Rattle.hitable.proofs.table_hi.Goals as goal

pub loop-t-init : goal.loop-t-init
loop-t-init c = record {
  front = omega arith;
  back = omega arith;
  count = counted_none _ _ (omega arith);
  made = hi_zero _ _ _ _ ∙ ap (λ (r : List ℕ). record { row = r; table = c.args.out.now }) (sym c.new-row.ensures.0);
}

pub one_more-placed-requires : goal.one_more-placed-requires
one_more-placed-requires c =
    let l = c.loop-t in
    (omega arith, λ i h. let b = counted_few _ _ _ _ l.invariant.count i (omega arith) in omega arith)

pub loop-t-preserved : goal.loop-t-preserved
loop-t-preserved c =
    let a = c.args in
    let s = a.list.bytes.now in
    let l = c.loop-t in
    let u = c.turn.result in
    let n : Counted (jobs s) c.one_more-placed.result (set l.out l.t u) (l.t + 1) =
    rw (c.one_more-placed.ensures, c.from.ensures, c.jobs_of-n.ensures.0) (counted_put _ _ _ _ l.invariant.count u (omega arith)) in
    record {
      front = omega arith;
      back = omega arith;
      count = n;
      made = hi_next s a.lo.now a.thi.now a.out.now l.t _ l.out l.invariant.made u _ _ c.turn.ensures.unit c.turn.ensures.row
          (c.push_front.ensures.row ∙ sym (c.further_of.ensures _) ∙ owing_counted s _ _ _ u _ n);
    }

pub returns : goal.returns
returns c =
    let a = c.args in
    let s = a.list.bytes.now in
    let l = c.loop-t in
    let e : l.t ≡ slots s = omega arith in
    ap (λ (h : Hi). h.table) (sym l.invariant.made ∙ ap (hi_at s a.lo.now a.thi.now a.out.now) e)
