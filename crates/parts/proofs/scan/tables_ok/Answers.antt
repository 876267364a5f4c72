-- One slot after the other.
-- Assumes nothing.
use Rattle.std.proofs.Common.{ℕ, ◌+◌, ◌%◌, ◌^◌, leb, max, get_or, refl, ap, ◌∙◌, arith, rules, tests}
use Rattle.std.proofs.lemmas.Iterator.{YieldsList-from_range}
use Rattle.std.proofs.lemmas.Iterator.Consumers.{fold_from_yields_List}
use Rattle.basics.specs.Limits.{first_edition}
use Rattle.parts.specs.Scan.{slot_ok, tables_ok}
use Rattle.parts.proofs.Worst.{turns_ok, slot_turn}
use Rattle.parts.proofs.scan.tables_ok.Goals as goal

pub returns : goal.returns
unfolding tables_ok slot_ok
returns c =
    let n = c.args.n in
    let low = λ (t : ℕ). get_or c.args.tables.now t 0 in
    let high = λ (t : ℕ). get_or c.args.tables.now (first_edition.slots + t) 0 in
    let turn = λ (a : ℕ) (t : ℕ). max (max a ((low t + 1) % 2 ^ 8)) ((high t + 1) % 2 ^ 8) in
    let worst = fold_from_yields_List _ turn 0 c.fold-worst.result c.fold-worst.ensures.ran (YieldsList-from_range 0 c.args.len c.args.len refl (omega arith)) (λ a x b q k. search (rules, tests)) in
    ap (λ r. leb r n) (c.from.ensures ∙ worst)
    ∙ turns_ok turn (slot_ok first_edition c.args.tables.now n) n (λ a t. slot_turn n a (low t) (high t) (omega (arith, c.fits-tables t)) (omega (arith, c.fits-tables (first_edition.slots + t)))) c.args.len
