-- The first slot below the deadline that a successor holds.
-- Assumes nothing.
use Rattle.std.proofs.Common.{◌≡◌, ◌∙◌, ap, ℕ, Bool, true, false, ◌&&◌, arith, rules, tests}
use Rattle.std.proofs.lemmas.Iterator.{first_from_Range, serves_from_Range}
use Rattle.basics.specs.Limits.{first_edition}
use Rattle.joblist.proofs.Accepted.{deadline_in_frame}
use Rattle.basics.specs.Find.{lowest}
use Rattle.joblist.specs.Fields.{deadline}
use Rattle.late.specs.Table.{entry, held, marked}
use Rattle.late.specs.Late.{holds_next}
use Rattle.late.proofs.Search.{first_lowest}
use Rattle.late.proofs.limit_of.Goals as goal

pub find-held-requires : goal.find-held-requires
find-held-requires c =
    let d = deadline_in_frame first_edition c.args.list.bytes.now c.args.list.accepted c.args.j (omega arith) in
    record { can = tt; finite = tt; callable = serves_from_Range (λ x q k. search (rules, tests)) (λ x low high. omega arith) }

pub returns : goal.returns
returns c =
    let s = c.args.list.bytes.now in
    let table = c.args.table.now in
    let f : ℕ → Bool = λ x. held s table x && marked c.next_of-next.result (entry table x) in
    let e : (x : ℕ) → f x ≡ holds_next s table c.args.j x = λ x. ap (λ b. held s table x && b) (c.next_of-next.ensures (entry table x)) in
    let p = first_from_Range _ _ _ _ (λ x. f x ≡ true) (λ x. f x ≡ false) c.find-held.ensures.ran (λ x q k. search (rules, tests)) (λ x q k. (search rules, search (rules, tests))) in
    c.unwrap_or.ensures
    ∙ first_lowest f c.deadline_of-d.result 0 c.find-held.result p
    ∙ ap (λ d. lowest f d 0) c.deadline_of-d.ensures.0
    ∙ ap (λ g. lowest g (deadline s c.args.j) 0) (λ z x. e x z)
