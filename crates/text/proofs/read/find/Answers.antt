use Rattle.std.proofs.Common.{sym, arith, ◌≡◌, true, false, eqb, refl, Some, None, rules, tests}
use Rattle.std.proofs.lemmas.Iterator.{YieldsList-from_slice, IsFirst-from_position}
use Rattle.basics.proofs.Find.{lowest_end}
use Rattle.text.proofs.Slices.{from_place, found}
use Rattle.text.proofs.read.find.Goals as goal

pub returns-then-s-from : goal.returns-then-s-from
returns-then-s-from c = (sym (lowest_end _ _ c.args.from (omega arith)), omega arith, λ h. h)

pub returns-in-Some : goal.returns-in-Some
returns-in-Some c =
    let first = IsFirst-from_position _ _ c.position.result (λ y. eqb y c.args.x ≡ true) (λ y. eqb y c.args.x ≡ false) c.position.ensures.ran (YieldsList-from_slice _ c.iter.ensures.rest) (λ x q k. search (rules, tests)) (λ x q k. search (rules, tests)) in
    found c.args.s.now c.args.from c.args.x _ (Some c.in-Some.i) (omega arith) (rw (from_place c.args.s.now c.args.from, c.in-Some.is) at first) refl

pub returns-in-None : goal.returns-in-None
returns-in-None c =
    let first = IsFirst-from_position _ _ c.position.result (λ y. eqb y c.args.x ≡ true) (λ y. eqb y c.args.x ≡ false) c.position.ensures.ran (YieldsList-from_slice _ c.iter.ensures.rest) (λ x q k. search (rules, tests)) (λ x q k. search (rules, tests)) in
    found c.args.s.now c.args.from c.args.x _ None (omega arith) (rw (from_place c.args.s.now c.args.from, c.in-None.is) at first) refl
