-- The first later slot that fits.
-- Assumes nothing.
use Rattle.std.proofs.Common.{◌≡◌, ◌∙◌, ap, ℕ, Bool, ◌+◌, true, false, cond, ltb, Option, Some, None, rules, tests}
use Rattle.std.proofs.lemmas.Iterator.{first_from_Range}
use Rattle.basics.specs.Find.{lowest}
use Rattle.late.specs.Table.{marked}
use Rattle.late.proofs.Search.{first_found}
use Rattle.lotable.specs.TableLo.{fits}
use Rattle.lotable.proofs.Opening.first_fit.Goals as goal

pub returns : goal.returns
returns c =
    let o = c.args.self.now in
    let f : ℕ → Bool = fits o.list.bytes.now (marked o.waiting.now) c.args.table.now o.slot in
    let p = first_from_Range _ _ _ _ (λ x. f x ≡ true) (λ x. f x ≡ false) c.find.ensures.ran (λ x q k. search (rules, tests)) (λ x q k. (search rules, search (rules, tests))) in
    first_found f _ (o.slot + 1) c.find.result p
    ∙ ap (λ n. cond {A = Option ℕ} (ltb (lowest f n (o.slot + 1)) n) (Some (lowest f n (o.slot + 1))) None) c.requires
