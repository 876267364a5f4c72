-- What reading and writing a plan answer: the rows of document 01's table, in their order.
-- Assumes nothing.
use Rattle.std.specs.Prelude.{ℕ, ◌-◌, List, length, leb, eqb, Result, Ok, Err}
use Rattle.basics.specs.Bytes.{u32_at}
use Rattle.basics.specs.Chain.{◌⨾◌, need}
use Rattle.basics.specs.Limits.{Limits}
use Rattle.basics.specs.Put.{put}
use Rattle.joblist.specs.Fields.{jobs, edges, slots, high}
use Rattle.joblist.specs.Answer.{front_answer}
use Rattle.verdict.specs.Answer.{Verdict, check_of, of_list}
use Rattle.planfile.specs.Plan.{mark, trailer_bytes, plan_of, plan_bytes, least_bytes, list_of, low_of, high_of}
use Rattle.planfile.specs.declared.ReadWhy.{ReadWhy}
use Rattle.planfile.specs.declared.ReadWhy.TheVariants.{Short, Mark, Distance, Checked}
use Rattle.planfile.specs.declared.Shape.{Shape}
use Rattle.planfile.specs.declared.WriteWhy.{WriteWhy}
use Rattle.planfile.specs.declared.WriteWhy.TheVariants.{Checked as NotChecked, Room}

-- n, m and L
abbrev pub shape_of : List ℕ → Shape
shape_of s = record { jobs = jobs s; edges = edges s; slots = slots s }

-- the check's answer, as the reader's
abbrev pub reading : Verdict → Result Unit ReadWhy
reading (Ok x) = Ok tt
reading (Err w) = Err (Checked w)

-- from 1 to 12: the list's rows with the plan's own length for 43, then the check of the parts
unfoldable pub parts_answer : Limits → List ℕ → Result Shape ReadWhy
parts_answer lim s =
    reading (of_list (front_answer lim (high s) s (plan_bytes (jobs s) (edges s) (slots s))))
    ⨾ reading (check_of lim (list_of s) (low_of s) (high_of s))
    ⨾ Ok (shape_of s)

-- the whole plan: 40, 41, 42, and the rows from 1 to 12
unfoldable pub read_of : Limits → List ℕ → Result Shape ReadWhy
read_of lim s =
    need (leb least_bytes (length s)) Short
    ⨾ need (eqb (u32_at s (length s - 4)) (u32_at mark 0)) Mark
    ⨾ need (eqb (u32_at s (length s - trailer_bytes)) (length s - trailer_bytes)) Distance
    ⨾ parts_answer lim s

-- the check's answer, as the writer's
abbrev pub writing : Verdict → Result Unit WriteWhy
writing (Ok x) = Ok tt
writing (Err w) = Err (NotChecked w)

-- what writing into `room` bytes answers: what the check objects to, 46, or the plan's length
unfoldable pub write_of : Limits → List ℕ → List ℕ → List ℕ → ℕ → Result ℕ WriteWhy
write_of lim list lo hi room =
    writing (check_of lim list lo hi)
    ⨾ need (leb (length (plan_of list lo hi)) room) Room
    ⨾ Ok (length (plan_of list lo hi))

-- the buffer then: the plan at its front, or as it was
abbrev pub filled : Result ℕ WriteWhy → List ℕ → List ℕ → List ℕ
filled (Ok size) plan out = put out 0 plan
filled (Err w) plan out = out

-- every byte of the buffer at exit
unfoldable pub out_after : Limits → List ℕ → List ℕ → List ℕ → List ℕ → List ℕ
out_after lim list lo hi out = filled (write_of lim list lo hi (length out)) (plan_of list lo hi) out
