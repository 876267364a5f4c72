-- The round trip over bytes, as statements: what was written is read again, and what was read is written again.
-- Assumes nothing.
use Rattle.std.specs.Prelude.{ℕ, ◌≤◌, ◌<◌, ◌≡◌, List, length, get_or, Ok, Err}
use Rattle.basics.specs.Limits.{Limits}
use Rattle.basics.specs.Put.{put}
use Rattle.verdict.specs.declared.Fault.{Fault}
use Rattle.verdict.specs.declared.Objection.TheVariants.{Entry, Bad}
use Rattle.verdict.specs.Answer.{Verdict}
use Rattle.planfile.specs.Plan.{plan_of, list_of, low_of, high_of}
use Rattle.planfile.specs.Answer.{shape_of, read_of, write_of, out_after}

-- what is left for the check of a plan's parts to say once the list's rows and the length are good: yes, 45, or 10 to 12
pub data OfTables : Verdict → Type 0 where
  fine : OfTables (Ok tt)
  entry : (t : ℕ) → OfTables (Err (Entry t))
  fault : (f : Fault) → OfTables (Err (Bad f))

-- bytes, as they stand in memory
abbrev pub AllBytes : List ℕ → Type 0
AllBytes s = (i : ℕ) → i < length s → get_or s i 0 < 256

-- the plan is accepted, and its parts are this list and these tables
pub record ReadsBack (lim : Limits) (plan list lo hi : List ℕ) : Type 0 where
  pub answer : read_of lim plan ≡ Ok (shape_of list)
  pub list_part : list_of plan ≡ list
  pub low_part : low_of plan ≡ lo
  pub high_part : high_of plan ≡ hi

-- the plan is the plan of its parts, and they are written as these very bytes wherever there is room
pub record WritesBack (lim : Limits) (plan : List ℕ) : Type 0 where
  pub same : plan_of (list_of plan) (low_of plan) (high_of plan) ≡ plan
  pub answer : (out : List ℕ) → length plan ≤ length out → write_of lim (list_of plan) (low_of plan) (high_of plan) (length out) ≡ Ok (length plan)
  pub bytes : (out : List ℕ) → length plan ≤ length out → out_after lim (list_of plan) (low_of plan) (high_of plan) out ≡ put out 0 plan
