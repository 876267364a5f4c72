-- What an answer of a build means, as statements.
-- Assumes nothing.
use Rattle.std.specs.Prelude.{ℕ, ◌≤◌, ◌<◌, ◌≡◌, List, length, take, drop, Ok, Err}
use Rattle.basics.specs.Limits.{Limits}
use Rattle.joblist.specs.Fields.{jobs, edges, slots, ordinary}
use Rattle.joblist.specs.Answer.{list_answer}
use Rattle.frame.specs.Demand.{EveryExecutionGood}
use Rattle.verdict.specs.FrameOf.{frame_of}
use Rattle.verdict.specs.Answer.{Verdict, check_of}
use Rattle.verdict.specs.Demand.{RealFault}
use Rattle.verdict.specs.declared.Fault.{Fault}
use Rattle.verdict.specs.declared.Objection.TheVariants.{Bad}
use Rattle.planfile.specs.Plan.{plan_bytes}
use Rattle.planfile.specs.Round.{ReadsBack}
use Rattle.late.specs.Table.{units}
use Rattle.merge.specs.Build.{pair_of, built_lo, built_hi, merge_plan, out_after}

-- a plan of k bytes: the check accepts the pair, so that every execution of it is good; table LO names each job exactly CLO times; the buffer has the plan at its front and the old bytes past it; and the plan is read again as this list and this pair
pub record Sound (lim : Limits) (s out : List ℕ) (k : ℕ) : Type 0 where
  pub list : list_answer lim s ≡ Ok tt
  pub pair : pair_of s ≡ Ok tt
  pub accepted : check_of lim s (built_lo s) (built_hi s) ≡ Ok tt
  pub good : EveryExecutionGood (frame_of s (built_lo s) (built_hi s))
  pub exact : (j : ℕ) → j < jobs s → units (built_lo s) (slots s) j ≡ ordinary s j
  pub size : k ≡ plan_bytes (jobs s) (edges s) (slots s)
  pub room : k ≤ length out
  pub front : take k (out_after lim s out) ≡ merge_plan s
  pub rest : drop k (out_after lim s out) ≡ drop k out
  pub reads : ReadsBack lim (merge_plan s) s (built_lo s) (built_hi s)

-- 24: the pair was made, and the check names a slot where a real execution of it goes wrong
pub record Unsound (lim : Limits) (s : List ℕ) (v : Verdict) : Type 0 where
  pub pair : pair_of s ≡ Ok tt
  pub fault : Fault
  pub answer : v ≡ Err (Bad fault)
  pub real : RealFault s (built_lo s) (built_hi s) fault
