-- What a witness says, as a statement, in the words of 'One execution': the needs are those of an execution that goes wrong as the check says.
-- Assumes nothing.
use Rattle.std.specs.Prelude.{ℕ, ◌≡◌, List, replicate, Err}
use Rattle.basics.specs.Limits.{Limits}
use Rattle.basics.specs.Units.{units_of}
use Rattle.verdict.specs.Answer.{check_of}
use Rattle.verdict.specs.Demand.{RealFault}
use Rattle.verdict.specs.declared.Fault.{Fault}
use Rattle.verdict.specs.declared.Objection.TheVariants.{Bad}
use Rattle.witness.specs.Needs.{witness_of}

-- the execution with these needs is valid, and bad at the fault's slot with its job, predecessor and switch: a real fault, whose demand is the needs
pub record Night (s lo hi : List ℕ) (f : Fault) (needs : List ℕ) : Type 0 where
  pub wrong : RealFault s lo hi f
  pub demand : wrong.real.demand ≡ units_of needs

-- on every input: the check's answer; where it is a fault, the night on which it happens; on any other answer no needs
pub record Witnessed (lim : Limits) (s lo hi : List ℕ) : Type 0 where
  pub answer : (witness_of lim s lo hi).verdict ≡ check_of lim s lo hi
  pub night : (f : Fault) → check_of lim s lo hi ≡ Err (Bad f) → Night s lo hi f (witness_of lim s lo hi).needs
  pub none : ((f : Fault) → ¬ (check_of lim s lo hi ≡ Err (Bad f))) → (witness_of lim s lo hi).needs ≡ replicate lim.jobs 0
