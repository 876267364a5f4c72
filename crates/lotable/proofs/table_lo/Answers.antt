-- One slot more: the unit that is picked is taken, or the slot clashes.
-- Assumes nothing.
use Rattle.std.proofs.Common.{◌≡◌, ◌∙◌, ◌+◌, sym, ap, refl, arith, rules, set, Some, None, Ok}
use Rattle.std.proofs.Math.Seq.{set-get_or}
use Rattle.std.proofs.lemmas.Result.{err_from_is_err_and}
use Rattle.joblist.specs.Fields.{jobs, slots, ordinary}
use Rattle.late.specs.Table.{marked}
use Rattle.late.proofs.Units.{Counted, counted_none, counted_put, counted_few}
use Rattle.lotable.specs.TableLo.{Tables, clash_in}
use Rattle.lotable.specs.declared.Source.TheVariants.{Low, High}
use Rattle.lotable.proofs.Laws.{pick_low, pick_high, pick_clash, tables_zero, onward_fine, onward_clash, onward_end, table_next, clash_is}
use Rattle.lotable.proofs.table_lo.Goals as goal
use Rattle.lotable.proofs.table_lo.Goals.{in-Some-Low, in-Some-High, in-None}

pub loop-slot-init : goal.loop-slot-init
unfolding clash_in
loop-slot-init c = record { clash = refl; count = counted_none _ _ (omega arith); tables = tables_zero _ _ }

pub bounds-low-k : goal.bounds-low-k
bounds-low-k c =
    let l = c.loop-slot in
    let a : c.in_ok-source.source ≡ Some c.in-Some-Low.field-0 = c.in-Some-Low.is in
    let b : c.in-Some-Low.field-0 ≡ Low c.in-Some-Low.k = rw a at c.in-Some-Low.field-0-is in
    let e : c.pick.result ≡ Ok (Some (Low c.in-Some-Low.k)) = c.in_ok-source.was ∙ ap Ok (a ∙ ap Some b) in
    let h = pick_low c.args.list.bytes.now (marked c.waiting_of.result) l.low l.high l.slot (omega arith) c.in-Some-Low.k (sym c.pick.ensures ∙ e) in
    omega arith

pub bounds-high-k : goal.bounds-high-k
bounds-high-k c =
    let l = c.loop-slot in
    let a : c.in_ok-source.source ≡ Some c.in-Some-High.field-0 = c.in-Some-High.is in
    let b : c.in-Some-High.field-0 ≡ High c.in-Some-High.k = rw a at c.in-Some-High.field-0-is in
    let e : c.pick.result ≡ Ok (Some (High c.in-Some-High.k)) = c.in_ok-source.was ∙ ap Ok (a ∙ ap Some b) in
    let h = pick_high c.args.list.bytes.now (marked c.waiting_of.result) l.low l.high l.slot (omega arith) c.in-Some-High.k (sym c.pick.ensures ∙ e) in
    omega arith

pub returns-in_err-source : goal.returns-in_err-source
returns-in_err-source c =
    let a = c.args in
    let s = a.list.bytes.now in
    let l = c.loop-slot in
    let start : Tables = record { low = a.low.now; high = a.high.now; lo = a.out.now } in
    let u = c.undone_of-undone.ensures (ordinary s) (λ j k i p. search rules) in
    let e = sym c.pick.ensures ∙ c.in_err-source.was in
    let k = clash_is s (λ e h. (a.list.accepted.edge e h).from) start _ l.slot l.invariant.tables l.placed l.invariant.count c.undone_of-undone.result c.waiting_of.result u c.waiting_of.ensures _ e in
    let p = err_from_is_err_and c.from_residual.result c.from_residual.ensures.1 in
    let b = pick_clash s (marked c.waiting_of.result) l.low l.high l.slot (omega arith) _ e (slots s) in
    rw (p.1, p.2) (
      sym (l.invariant.clash ∙ onward_clash s start l.slot _ (omega arith) k),
      rw (b, set-get_or l.out l.slot 0) (sym l.invariant.tables),
    )

pub one_more-placed-requires : goal.one_more-placed-requires
one_more-placed-requires c =
    let l = c.loop-slot in
    (omega arith, λ i h. let b = counted_few _ _ _ _ l.invariant.count i (omega arith) in omega arith)

pub loop-slot-preserved : goal.loop-slot-preserved
loop-slot-preserved c =
    let a = c.args in
    let s = a.list.bytes.now in
    let l = c.loop-slot in
    let start : Tables = record { low = a.low.now; high = a.high.now; lo = a.out.now } in
    let n : Counted (jobs s) c.one_more-placed.result (set l.out l.slot c.match-source.unit) (l.slot + 1) =
    rw (c.one_more-placed.ensures, c.from.ensures, c.jobs_of-n.ensures.0) (counted_put _ _ _ _ l.invariant.count c.match-source.unit (omega arith)) in
    let u = c.undone_of-undone.ensures (ordinary s) (λ j k i p. search rules) in
    let k = clash_is s (λ e h. (a.list.accepted.edge e h).from) start _ l.slot l.invariant.tables l.placed l.invariant.count c.undone_of-undone.result c.waiting_of.result u c.waiting_of.ensures in
    let m = table_next s (λ e h. (a.list.accepted.edge e h).from) start _ l.slot l.invariant.tables l.placed l.invariant.count c.undone_of-undone.result c.waiting_of.result u c.waiting_of.ensures in
    let o = sym c.pick.ensures ∙ c.in_ok-source.was in
    elim c.match-source.branch [
      | in-Some-Low w ↦
          let a : c.in_ok-source.source ≡ Some w.in-Some-Low.field-0 = w.in-Some-Low.is in
          let b : w.in-Some-Low.field-0 ≡ Low w.in-Some-Low.k = rw a at w.in-Some-Low.field-0-is in
          let e = o ∙ ap Ok (a ∙ ap Some b) in
          record {
            clash = l.invariant.clash ∙ onward_fine s start l.slot (omega arith) (k (Ok (Some (Low w.in-Some-Low.k))) e);
            count = n;
            tables = rw (w.low-is, w.high-is, w.unit-is, w.replace.ensures.value, w.replace.ensures.after) (m (Ok (Some (Low w.in-Some-Low.k))) e);
          }
      | in-Some-High w ↦
          let a : c.in_ok-source.source ≡ Some w.in-Some-High.field-0 = w.in-Some-High.is in
          let b : w.in-Some-High.field-0 ≡ High w.in-Some-High.k = rw a at w.in-Some-High.field-0-is in
          let e = o ∙ ap Ok (a ∙ ap Some b) in
          record {
            clash = l.invariant.clash ∙ onward_fine s start l.slot (omega arith) (k (Ok (Some (High w.in-Some-High.k))) e);
            count = n;
            tables = rw (w.low-is, w.high-is, w.unit-is, w.replace-in-Some-High.ensures.value, w.replace-in-Some-High.ensures.after) (m (Ok (Some (High w.in-Some-High.k))) e);
          }
      | in-None w ↦
          let a : c.in_ok-source.source ≡ None = w.in-None.is in
          let e = o ∙ ap Ok a in
          record {
            clash = l.invariant.clash ∙ onward_fine s start l.slot (omega arith) (k (Ok None) e);
            count = n;
            tables = rw (w.low-is, w.high-is, w.unit-is) (m (Ok None) e);
          }
    ]

pub returns : goal.returns
returns c =
    let a = c.args in
    let s = a.list.bytes.now in
    let l = c.loop-slot in
    let e : l.slot ≡ slots s = omega arith in
    (sym (l.invariant.clash ∙ onward_end _ _ _ (omega arith)), sym (rw e at l.invariant.tables))
