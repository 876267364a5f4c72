-- The first job that is late.
-- Assumes nothing.
use Rattle.std.proofs.Common.{◌≡◌, ◌∙◌, sym, ap, ℕ, Bool, true, false, ◌&&◌, eqb, rules, tests, Some, None, Ok}
use Rattle.std.proofs.lemmas.Iterator.{first_from_Range}
use Rattle.joblist.specs.Fields.{deadline}
use Rattle.late.specs.Table.{marked}
use Rattle.late.specs.Late.{at, late_at}
use Rattle.late.proofs.Search.{first_refusal, refusals}
use Rattle.late.proofs.late_in.Goals as goal

pub returns : goal.returns
unfolding late_at
returns c =
    let s = c.args.list.bytes.now in
    let t = c.args.t in
    let f : ℕ → Bool = λ j. eqb (deadline s j) t && marked c.args.undone.now j in
    let p = first_from_Range _ _ _ _ (λ j. f j ≡ true) (λ j. f j ≡ false) c.find-late.ensures.ran (λ x q k. search (rules, tests)) (λ x q k. (search rules, search (rules, tests))) in
    let e = first_refusal f (λ j. record { slot = t; job = j }) c.jobs_of.result c.find-late.result p in
    let a = ap (λ n. refusals f (λ j. record { slot = t; job = j }) n 0) c.jobs_of.ensures.0 in
    let q : c.map_or.result ≡ (elim c.find-late.result [ None ↦ Ok tt | Some i ↦ at t i ]) = search rules in
    q ∙ sym e ∙ a
