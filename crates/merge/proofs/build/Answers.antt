-- An accepted list has at most as many slots as the tables have room, and the front of an idle table is idle.
-- Assumes nothing.
use Rattle.std.proofs.Common.{◌≡◌, ◌≤◌, ◌∙◌, ℕ, List, Ok, sym, ap, arith, replicate}
use Rattle.std.proofs.lemmas.Result.{err_from_is_err_and}
use Rattle.basics.specs.Limits.{first_edition}
use Rattle.basics.specs.Marks.{idle}
use Rattle.joblist.specs.Fields.{slots}
use Rattle.joblist.specs.Answer.{list_answer}
use Rattle.joblist.proofs.Accepted.{accepted, list_length}
use Rattle.merge.proofs.Laws.{refused_list, refused_room, idle_front, idle_front_long}
use Rattle.merge.proofs.build.Goals as goal

few : (s : List ℕ) (l : ℕ) → list_answer first_edition s ≡ Ok tt → l ≡ slots s → l ≤ 1024
few s l g e = let a = accepted first_edition s g in omega (arith, a.most_slots)

pub returns-in_err-check_list : goal.returns-in_err-check_list
returns-in_err-check_list c =
    let p = err_from_is_err_and c.from_residual.result c.from_residual.ensures.1 in
    rw (p.1, p.2) (refused_list first_edition c.args.list.now c.args.out.now _ (sym c.check_list.ensures ∙ c.in_err-check_list.was))

pub slots_of-l-requires : goal.slots_of-l-requires
slots_of-l-requires c = let a = accepted first_edition c.args.list.now (sym c.check_list.ensures ∙ c.in_ok-check_list.was) in omega arith

pub returns-then-out-list : goal.returns-then-out-list
returns-then-out-list c =
    let s = c.args.list.now in
    let g = sym c.check_list.ensures ∙ c.in_ok-check_list.was in
    let n = list_length first_edition s g in
    refused_room first_edition s c.args.out.now g (omega arith)

pub slice_bounds-low-end : goal.slice_bounds-low-end
slice_bounds-low-end c = few c.args.list.now _ (sym c.check_list.ensures ∙ c.in_ok-check_list.was) c.slots_of-l.ensures.0

pub slice_bounds-tables-end : goal.slice_bounds-tables-end
slice_bounds-tables-end c = idle_front_long _ 1024 (few c.args.list.now _ (sym c.check_list.ensures ∙ c.in_ok-check_list.was) c.slots_of-l.ensures.0)

pub slice_bounds-high-end : goal.slice_bounds-high-end
slice_bounds-high-end c = few c.args.list.now _ (sym c.check_list.ensures ∙ c.in_ok-check_list.was) c.slots_of-l.ensures.0

pub slice_bounds-tables-end-2 : goal.slice_bounds-tables-end-2
slice_bounds-tables-end-2 c = idle_front_long _ 1024 (few c.args.list.now _ (sym c.check_list.ensures ∙ c.in_ok-check_list.was) c.slots_of-l.ensures.0)

pub slice_bounds-left-end : goal.slice_bounds-left-end
slice_bounds-left-end c = few c.args.list.now _ (sym c.check_list.ensures ∙ c.in_ok-check_list.was) c.slots_of-l.ensures.0

pub slice_bounds-tables-end-3 : goal.slice_bounds-tables-end-3
slice_bounds-tables-end-3 c = idle_front_long _ 1024 (few c.args.list.now _ (sym c.check_list.ensures ∙ c.in_ok-check_list.was) c.slots_of-l.ensures.0)

pub slice_bounds-lo-end : goal.slice_bounds-lo-end
slice_bounds-lo-end c = few c.args.list.now _ (sym c.check_list.ensures ∙ c.in_ok-check_list.was) c.slots_of-l.ensures.0

pub slice_bounds-tables-end-4 : goal.slice_bounds-tables-end-4
slice_bounds-tables-end-4 c = idle_front_long _ 1024 (few c.args.list.now _ (sym c.check_list.ensures ∙ c.in_ok-check_list.was) c.slots_of-l.ensures.0)

pub slice_bounds-hi-end : goal.slice_bounds-hi-end
slice_bounds-hi-end c = few c.args.list.now _ (sym c.check_list.ensures ∙ c.in_ok-check_list.was) c.slots_of-l.ensures.0

pub slice_bounds-tables-end-5 : goal.slice_bounds-tables-end-5
slice_bounds-tables-end-5 c = idle_front_long _ 1024 (few c.args.list.now _ (sym c.check_list.ensures ∙ c.in_ok-check_list.was) c.slots_of-l.ensures.0)

pub invariant_of-build : goal.invariant_of-build
invariant_of-build c = record { accepted = accepted first_edition c.args.list.now (sym c.check_list.ensures ∙ c.in_ok-check_list.was) }

pub build-requires : goal.build-requires
build-requires c =
    let g = sym c.check_list.ensures ∙ c.in_ok-check_list.was in
    let n = list_length first_edition c.args.list.now g in
    let e = idle_front c.slots_of-l.result 1024 (few c.args.list.now _ g c.slots_of-l.ensures.0) ∙ ap (λ (l : ℕ). replicate l idle) c.slots_of-l.ensures.0 in
    record { accepted = g; idle = record { low = e; high = e; left = e; lo = e; hi = e }; room = omega arith }
