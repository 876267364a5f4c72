use Rattle.std.proofs.Common.{◌∙◌, ltb, rules, tests}
use Rattle.std.proofs.lemmas.Iterator.{YieldsList-from_slice}
use Rattle.std.proofs.lemmas.Iterator.Search.{all_from_yields_List}
use borrow.Author.Tests.{eq-eqb, ne_eqb}
use Rattle.text.specs.Hex.{is_hex, worth}
use Rattle.text.proofs.Slices.{all_bytes}
use Rattle.text.proofs.hex.is_hex.Goals as goal

pub returns-then-s-eq0 : goal.returns-then-s-eq0
unfolding is_hex
returns-then-s-eq0 c =
    rw (eq-eqb _ _ c.if-s-eq0.true) (all_from_yields_List (λ x. ltb (worth x) 16) _ _ _ c.all.ensures.ran (YieldsList-from_slice c.args.s.now cc) (λ x b q k. search (rules, tests)) ∙ all_bytes (λ x. ltb (worth x) 16) c.args.s.now)

pub returns-else-s-eq0 : goal.returns-else-s-eq0
unfolding is_hex
returns-else-s-eq0 c = rw (ne_eqb _ _ c.if-s-eq0.false)
