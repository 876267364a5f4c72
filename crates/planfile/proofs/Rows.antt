-- Laws of the rows: what leads to each answer of reading and of writing.
-- Assumes nothing.
use Prim.Native.Nat.{ℕ, ◌-◌, ◌≤◌}
use mathlib.Core.Path.{◌≡◌, refl}
use mathlib.Core.List.{List}
use borrow.Author.Tests.{le-leb, eq-eqb}
use lib.ListN.{length}
use Rattle.std.specs.Prelude.{Ok}
use Rattle.basics.specs.Bytes.{u32_at}
use Rattle.basics.specs.Limits.{Limits}
use Rattle.basics.specs.Put.{put}
use Rattle.joblist.specs.Fields.{jobs, edges, slots, high}
use Rattle.joblist.specs.Answer.{front_answer}
use Rattle.verdict.specs.Answer.{check_of}
use Rattle.planfile.specs.Plan.{mark, trailer_bytes, plan_of, plan_bytes, least_bytes, list_of, low_of, high_of}
use Rattle.planfile.specs.Answer.{shape_of, parts_answer, read_of, write_of, out_after}

-- reading
module _ (lim : Limits) (s : List ℕ) where
  pub read_rest : least_bytes ≤ length s → u32_at s (length s - 4) ≡ u32_at mark 0 → u32_at s (length s - trailer_bytes) ≡ length s - trailer_bytes → parts_answer lim s ≡ read_of lim s
  unfolding read_of
  read_rest h m d = rw (le-leb _ _ h, eq-eqb _ _ m, eq-eqb _ _ d)

  pub parts_plan : front_answer lim (high s) s (plan_bytes (jobs s) (edges s) (slots s)) ≡ Ok tt → check_of lim (list_of s) (low_of s) (high_of s) ≡ Ok tt → Ok (shape_of s) ≡ parts_answer lim s
  unfolding parts_answer
  parts_plan f v = rw (f, v)

-- writing
module _ (lim : Limits) (list lo hi out : List ℕ) where
  pub write_plan : check_of lim list lo hi ≡ Ok tt → length (plan_of list lo hi) ≤ length out → (Ok (length (plan_of list lo hi)) ≡ write_of lim list lo hi (length out)) × (put out 0 (plan_of list lo hi) ≡ out_after lim list lo hi out)
  unfolding write_of out_after
  write_plan v h = rw (v, le-leb _ _ h) (refl, refl)
