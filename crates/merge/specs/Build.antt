-- Building the pair, and what a build answers: the list's rows, 46, and 20 to 24, in this order.
-- Assumes nothing.
use Rattle.std.specs.Prelude.{ℕ, List, length, leb, Result, Ok, Err}
use Rattle.basics.specs.Chain.{◌⨾◌, need}
use Rattle.basics.specs.Limits.{Limits}
use Rattle.basics.specs.Put.{put}
use Rattle.joblist.specs.Fields.{jobs, edges, slots}
use Rattle.joblist.specs.Answer.{list_answer}
use Rattle.joblist.specs.declared.Why.{Why}
use Rattle.verdict.specs.Answer.{Verdict, check_of}
use Rattle.planfile.specs.Plan.{plan_of, plan_bytes}
use Rattle.late.specs.Late.{late_of, thi}
use Rattle.late.specs.declared.Late.{Late}
use Rattle.lotable.specs.TableLo.{clash_of, table_lo}
use Rattle.lotable.specs.declared.Clash.{Clash}
use Rattle.lotable.specs.declared.Clash.TheVariants.{BothAt, EarlyAt}
use Rattle.hitable.specs.TableHi.{table_hi}
use Rattle.merge.specs.declared.BuildWhy.{BuildWhy}
use Rattle.merge.specs.declared.BuildWhy.TheVariants.{OfList, Room, LowLate, HighLate, Both, Early, Rejected}

-- 20 and 21: the low late table is made first
abbrev pub of_late : Result Unit Late → Result Unit Late → Result Unit BuildWhy
of_late (Err e) y = Err (LowLate e.slot e.job)
of_late (Ok u) (Err e) = Err (HighLate e.slot e.job)
of_late (Ok u) (Ok v) = Ok tt

-- 22 and 23
abbrev pub clash_why : Clash → BuildWhy
clash_why (BothAt t) = Both t
clash_why (EarlyAt t) = Early t

abbrev pub of_clash : Result Unit Clash → Result Unit BuildWhy
of_clash (Ok u) = Ok tt
of_clash (Err e) = Err (clash_why e)

module _ (s : List ℕ) where
  -- 20 to 23
  unfoldable pub pair_of : Result Unit BuildWhy
  pair_of = of_late (late_of s 0) (late_of s 1) ⨾ of_clash (clash_of s)

  -- the pair
  abbrev pub built_lo : List ℕ
  built_lo = table_lo s

  unfoldable pub built_hi : List ℕ
  built_hi = table_hi s (table_lo s) (thi s)

  -- the plan of the built pair
  unfoldable pub merge_plan : List ℕ
  merge_plan = plan_of s built_lo built_hi

-- the list's rows
abbrev pub of_list : Result Unit Why → Result Unit BuildWhy
of_list (Ok u) = Ok tt
of_list (Err w) = Err (OfList w)

-- 24, with the check's whole answer
abbrev pub of_check : Verdict → Result Unit BuildWhy
of_check (Ok u) = Ok tt
of_check (Err w) = Err (Rejected (Err w))

-- what building into `room` bytes answers
unfoldable pub build_of : Limits → List ℕ → ℕ → Result ℕ BuildWhy
build_of lim s room =
    of_list (list_answer lim s)
    ⨾ need (leb (plan_bytes (jobs s) (edges s) (slots s)) room) Room
    ⨾ pair_of s
    ⨾ of_check (check_of lim s (built_lo s) (built_hi s))
    ⨾ Ok (length (merge_plan s))

-- the buffer then: the plan at its front, or as it was
abbrev pub filled : Result ℕ BuildWhy → List ℕ → List ℕ → List ℕ
filled (Ok size) plan out = put out 0 plan
filled (Err w) plan out = out

-- every byte of the buffer at exit
unfoldable pub out_after : Limits → List ℕ → List ℕ → List ℕ
out_after lim s out = filled (build_of lim s (length out)) (merge_plan s) out
