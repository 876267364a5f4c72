-- What `hut_why` leaves: the check's answer, and in the lent array what each job needs in an execution that goes wrong as it says.
-- Assumes nothing.
use Rattle.std.specs.Prelude.{ℕ, List}
use Rattle.basics.specs.Limits.{Limits}
use Rattle.witness.specs.Needs.{witness_of}
use Rattle.hut.specs.declared.Answer.{Answer}
use Rattle.hut.specs.Calls.{check_answer}

-- the answer: as the check's own
unfoldable pub why_answer : Limits → List ℕ → List ℕ → List ℕ → Answer
why_answer lim s lo hi = check_answer (witness_of lim s lo hi).verdict

-- the array: zeros where the answer is no fault
abbrev pub why_needs : Limits → List ℕ → List ℕ → List ℕ → List ℕ
why_needs lim s lo hi = (witness_of lim s lo hi).needs
