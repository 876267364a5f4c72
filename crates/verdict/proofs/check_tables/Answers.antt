-- The rows in their order, and the search last.
-- Assumes nothing.
use Rattle.std.proofs.Common.{◌∙◌, sym, arith}
use Rattle.basics.specs.Limits.{first_edition}
use Rattle.joblist.proofs.Accepted.{accepted}
use Rattle.verdict.proofs.Tables.{entry_hi, bad_is, entry_lo, few_jobs, few_slots, named_jobs, rising_budgets, says, size_hi, size_lo, whole_list}
use Rattle.verdict.proofs.check_tables.Goals as goal

pub jobs_of-n-requires : goal.jobs_of-n-requires
jobs_of-n-requires c = let A = accepted first_edition c.args.list.now c.requires in omega (arith, A.fits)

pub edges_of-m-requires : goal.edges_of-m-requires
edges_of-m-requires c = let A = accepted first_edition c.args.list.now c.requires in omega (arith, A.fits)

pub slots_of-l-requires : goal.slots_of-l-requires
slots_of-l-requires c = let A = accepted first_edition c.args.list.now c.requires in omega (arith, A.fits)

pub returns-then-lo-l : goal.returns-then-lo-l
returns-then-lo-l c =
    let a = c.args in
    let n = c.jobs_of-n in
    let m = c.edges_of-m in
    let l = c.slots_of-l in
    size_lo a.list.now a.lo.now a.hi.now n.result m.result l.result n.ensures.0 m.ensures.0 l.ensures.0 c.if-lo-l.true

pub returns-then-hi-l : goal.returns-then-hi-l
returns-then-hi-l c =
    let a = c.args in
    let n = c.jobs_of-n in
    let m = c.edges_of-m in
    let l = c.slots_of-l in
    size_hi a.list.now a.lo.now a.hi.now n.result m.result l.result n.ensures.0 m.ensures.0 l.ensures.0 c.if-lo-l.false c.if-hi-l.true

pub returns-in-Some : goal.returns-in-Some
returns-in-Some c =
    let a = c.args in
    let n = c.jobs_of-n in
    let m = c.edges_of-m in
    let l = c.slots_of-l in
    entry_lo a.list.now a.lo.now a.hi.now n.result m.result l.result n.ensures.0 m.ensures.0 l.ensures.0 c.if-lo-l.false c.if-hi-l.false _ (sym c.first_odd.ensures ∙ c.in-Some.is)

pub returns-in-Some-first_odd : goal.returns-in-Some-first_odd
returns-in-Some-first_odd c =
    let a = c.args in
    let n = c.jobs_of-n in
    let m = c.edges_of-m in
    let l = c.slots_of-l in
    entry_hi a.list.now a.lo.now a.hi.now n.result m.result l.result n.ensures.0 m.ensures.0 l.ensures.0 c.if-lo-l.false c.if-hi-l.false (sym c.first_odd.ensures ∙ c.in_default.is) _ (sym c.first_odd-2.ensures ∙ c.in-Some-first_odd.is)

pub search_tables-requires : goal.search_tables-requires
search_tables-requires c =
    let a = c.args in
    let n = c.jobs_of-n in
    let m = c.edges_of-m in
    let l = c.slots_of-l in
    let A = accepted first_edition a.list.now c.requires in
    record {
      jobs = few_jobs a.list.now a.lo.now a.hi.now n.result m.result l.result n.ensures.0 m.ensures.0 l.ensures.0 A;
      slots = few_slots a.list.now a.lo.now a.hi.now n.result m.result l.result n.ensures.0 m.ensures.0 l.ensures.0 A;
      covered = omega arith;
      whole = whole_list a.list.now a.lo.now a.hi.now n.result m.result l.result n.ensures.0 m.ensures.0 l.ensures.0 A;
      named = named_jobs a.list.now a.lo.now a.hi.now n.result m.result l.result n.ensures.0 m.ensures.0 l.ensures.0 A;
      rising = rising_budgets a.list.now a.lo.now a.hi.now n.result m.result l.result n.ensures.0 m.ensures.0 l.ensures.0 A;
    }

pub returns : goal.returns
returns c =
    let a = c.args in
    let n = c.jobs_of-n in
    let m = c.edges_of-m in
    let l = c.slots_of-l in
    bad_is c.search_tables.result c.map_err.result c.map_err.ensures.cases
    ∙ says a.list.now a.lo.now a.hi.now n.result m.result l.result n.ensures.0 m.ensures.0 l.ensures.0 c.if-lo-l.false c.if-hi-l.false (sym c.first_odd.ensures ∙ c.in_default.is) (sym c.first_odd-2.ensures ∙ c.in_default-first_odd.is) first_edition c.requires c.search_tables.result c.search_tables.ensures
