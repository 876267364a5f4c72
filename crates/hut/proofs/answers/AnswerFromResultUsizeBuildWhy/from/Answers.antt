use Rattle.std.proofs.Common.{rules}
use Rattle.hut.specs.Calls.{build_answer}
use Rattle.hut.proofs.Parts.{same_parts}
use Rattle.hut.proofs.answers.AnswerFromResultUsizeBuildWhy.from.Goals as goal

pub returns : goal.returns
unfolding build_answer
returns c = same_parts _ _ _ _ _ _ _ _ (search rules) (search rules) (search rules) (search rules)
