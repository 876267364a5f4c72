-- A search of the table's entries.
-- Assumes nothing.
use Rattle.std.proofs.Common.{rules, tests, ◌||◌, eqb, ltb, not}
use Rattle.std.proofs.lemmas.Iterator.{YieldsList-from_slice}
use Rattle.std.proofs.lemmas.Iterator.Search.{position_from_yields_List}
use Rattle.basics.specs.Marks.{idle}
use Rattle.verdict.proofs.Find.{first_entry}
use Rattle.verdict.specs.Answer.{odd_entry}
use Rattle.verdict.proofs.first_odd.Goals as goal

pub returns : goal.returns
unfolding odd_entry
returns c =
    let a = c.args in
    first_entry (λ x. not (ltb x a.n || eqb x idle)) idle a.table.now c.position.result (position_from_yields_List (λ x. not (ltb x a.n || eqb x idle)) _ _ c.position.result c.position.ensures.ran (YieldsList-from_slice a.table.now cc) (λ x b q k. search (rules, tests)))
