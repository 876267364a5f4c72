-- Demand 3 on bytes, as a statement: what the check's answer means by executions alone. Read this file first.
-- Assumes nothing.
use Rattle.std.specs.Prelude.{ℕ, ◌<◌, ◌≡◌, ◌⊎◌, ◌↔◌, List, length, get_or, Ok, Err}
use Rattle.basics.specs.Limits.{Limits}
use Rattle.basics.specs.Marks.{idle}
use Rattle.joblist.specs.Fields.{jobs, slots}
use Rattle.joblist.specs.Answer.{list_answer}
use Rattle.frame.specs.Demand.{EveryExecutionGood, Real}
use Rattle.frame.specs.Search.{Fault as Found}
use Rattle.verdict.specs.FrameOf.{frame_of}
use Rattle.verdict.specs.Answer.{check_of, switch_of, fault_of}
use Rattle.verdict.specs.declared.Fault.{Fault}
use Rattle.verdict.specs.declared.Objection.TheVariants.{Bad}

-- a table of L bytes, each of them a job or idle
pub record GoodTable (s table : List ℕ) : Type 0 where
  pub size : length table ≡ slots s
  pub entry : (t : ℕ) → t < length table → (get_or table t idle < jobs s) ⊎ (get_or table t idle ≡ idle)

-- well_formed input, whoever drew the tables
pub record Input (lim : Limits) (s lo hi : List ℕ) : Type 0 where
  pub list : list_answer lim s ≡ Ok tt
  pub low : GoodTable s lo
  pub high : GoodTable s hi

-- a real execution is bad as the fault says: at its slot, with its job and predecessor, after its switch
pub record RealFault (s lo hi : List ℕ) (f : Fault) : Type 0 where
  pub fault : Found
  pub said : fault_of fault.slot (switch_of fault.chain) fault.kind ≡ f
  pub real : Real (frame_of s lo hi) fault

-- yes exactly when every execution is good; a no names a slot where a real execution goes wrong; and there is no third answer
pub record Demand3 (lim : Limits) (s lo hi : List ℕ) : Type 0 where
  pub yes_iff : (check_of lim s lo hi ≡ Ok tt) ↔ EveryExecutionGood (frame_of s lo hi)
  pub no_real : (f : Fault) → check_of lim s lo hi ≡ Err (Bad f) → RealFault s lo hi f
  pub judged : (check_of lim s lo hi ≡ Ok tt) ⊎ ((f : Fault) × (check_of lim s lo hi ≡ Err (Bad f)))
