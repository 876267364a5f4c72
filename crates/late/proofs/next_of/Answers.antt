-- To be job j is the test.
-- Assumes nothing.
use Rattle.std.proofs.Common.{◌∙◌, rules, eqb}
use Rattle.late.proofs.Marks.{comes_next}
use Rattle.late.proofs.next_of.Goals as goal

pub returns : goal.returns
returns c = λ q. c.followers.ensures (λ p. eqb p c.args.j) (λ p b l k. search rules) q ∙ comes_next c.args.list.bytes.now c.args.j q
