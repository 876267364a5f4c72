-- A fault in table LO, and else what is found behind the switches.
-- Assumes nothing.
use Rattle.std.proofs.Common.{[], Err, ℕ, ◌∙◌, ◌≡◌, ◌-◌, ap, replicate, sym, arith}
use Rattle.std.proofs.lemmas.Result.{err_from_is_err_and}
use Rattle.basics.specs.Limits.{first_edition}
use Rattle.basics.specs.Units.{units_of}
use Rattle.frame.specs.Execution.{state}
use Rattle.frame.specs.Search.{scan}
use Rattle.frame.specs.TwoLevels.{each_switch}
use Rattle.joblist.specs.Fields.{edge_in}
use Rattle.verdict.proofs.SameSearch.{search_same}
use Rattle.verdict.proofs.Told.{told_found, told_then}
use Rattle.verdict.specs.FrameOf.{frame_with}
use Rattle.verdict.specs.Inner.{edge_at, told}
use Rattle.verdict.proofs.faults.search_tables.Goals as goal

pub returns-in_err-scan_from : goal.returns-in_err-scan_from
returns-in_err-scan_from c =
    let a = c.args in
    let b = c.fill_square in
    let need = c.needs_at_first in
    let first = scan (frame_with a.list.now a.n a.l a.lo.now a.hi.now (edge_at b.new.square)) (units_of need.result) a.l 0 (state 0 0 [] (replicate first_edition.jobs 0)) in
    let rest = each_switch (frame_with a.list.now a.n a.l a.lo.now a.hi.now (edge_at b.new.square)) a.l 0 (replicate a.n 0) in
    let at_0 = ap (λ (k : ℕ). told (scan (frame_with a.list.now a.n a.l a.lo.now a.hi.now (edge_at b.new.square)) (units_of need.result) k 0 (state 0 0 [] (replicate first_edition.jobs 0)))) (let e : a.l ≡ a.l - 0 = omega arith in e) in
    let p = err_from_is_err_and c.from_residual.result c.from_residual.ensures.1 in
    p.1 ∙ ap Err p.2 ∙ sym (ap told (search_same a.list.now a.n a.l a.lo.now a.hi.now (edge_at b.new.square) (edge_in a.list.now a.n a.m) b.ensures first_edition.jobs need.result c.requires.jobs need.ensures) ∙ told_found first rest _ (at_0 ∙ sym c.scan_from.ensures ∙ c.in_err-scan_from.was))

pub returns : goal.returns
returns c =
    let a = c.args in
    let b = c.fill_square in
    let need = c.needs_at_first in
    let first = scan (frame_with a.list.now a.n a.l a.lo.now a.hi.now (edge_at b.new.square)) (units_of need.result) a.l 0 (state 0 0 [] (replicate first_edition.jobs 0)) in
    let rest = each_switch (frame_with a.list.now a.n a.l a.lo.now a.hi.now (edge_at b.new.square)) a.l 0 (replicate a.n 0) in
    let at_0 = ap (λ (k : ℕ). told (scan (frame_with a.list.now a.n a.l a.lo.now a.hi.now (edge_at b.new.square)) (units_of need.result) k 0 (state 0 0 [] (replicate first_edition.jobs 0)))) (let e : a.l ≡ a.l - 0 = omega arith in e) in
    c.switches_from.ensures ∙ sym (ap told (search_same a.list.now a.n a.l a.lo.now a.hi.now (edge_at b.new.square) (edge_in a.list.now a.n a.m) b.ensures first_edition.jobs need.result c.requires.jobs need.ensures ∙ told_then first rest (at_0 ∙ sym c.scan_from.ensures ∙ c.in_ok-scan_from.was)))
