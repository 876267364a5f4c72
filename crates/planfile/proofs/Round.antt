-- The round trip: what was written is read again, and what was read is written again.
-- Assumes nothing.
use Prim.Native.Nat.{ℕ, ◌+◌, ◌≤◌, ◌<◌, ◌^◌}
use mathlib.Core.Path.{◌≡◌, sym, ◌∙◌}
use mathlib.Core.List.{List}
use native.Mathlib.Omega.{arith}
use lib.ListN.{length, take, drop}
use Rattle.std.specs.Prelude.{Ok, Err}
use Rattle.basics.specs.Limits.{Limits, first_edition}
use Rattle.basics.proofs.Put.{take_put, drop_put}
use Rattle.joblist.proofs.Accepted.{front_accepted}
use Rattle.frame.specs.Demand.{EveryExecutionGood}
use Rattle.verdict.proofs.Judged.{yes_good}
use Rattle.verdict.specs.FrameOf.{frame_of}
use Rattle.planfile.specs.Plan.{plan_of, most_bytes, list_of, low_of, high_of}
use Rattle.planfile.specs.Answer.{read_of, write_of, out_after}
use Rattle.planfile.specs.Round.{AllBytes, ReadsBack, WritesBack}
use Rattle.planfile.specs.declared.Shape.{Shape}
use Rattle.planfile.specs.declared.WriteWhy.{WriteWhy}
use Rattle.planfile.proofs.Rows.{write_plan}
use Rattle.planfile.proofs.Accepted.{wrote_yes, read_yes}
use Rattle.planfile.proofs.ReadBack.{plan_reads}
use Rattle.planfile.proofs.WriteBack.{plan_again, plan_writes}
use Rattle.planfile.proofs.Front.{front_length}

-- a write that says a length: the plan lies at the front of the buffer, and the bytes past it are as they were
pub write_puts : (lim : Limits) (list lo hi out : List ℕ) (size : ℕ) → write_of lim list lo hi (length out) ≡ Ok size → (take size (out_after lim list lo hi out) ≡ plan_of list lo hi) × (drop size (out_after lim list lo hi out) ≡ drop size out)
write_puts lim list lo hi out size h =
    let w = wrote_yes lim list lo hi (length out) size h in
    let e : 0 + length (plan_of list lo hi) ≡ size = omega (arith, w.1) in
    let z : size + 0 ≡ size = omega arith in
    let fits : 0 + length (plan_of list lo hi) ≤ length out = omega (arith, w.2) in
    rw (← (write_plan lim list lo hi out w.0 w.2).1)
    (rw e at (take_put out 0 (plan_of list lo hi) fits), rw (e, z) at (drop_put out 0 (plan_of list lo hi) fits 0))

-- a refusal leaves every byte as it was
pub refusal_leaves : (lim : Limits) (list lo hi out : List ℕ) (w : WriteWhy) → write_of lim list lo hi (length out) ≡ Err w → out_after lim list lo hi out ≡ out
unfolding out_after
refusal_leaves lim list lo hi out w h = rw h

-- what `write` accepted, `read` accepts, and its parts are the same list and tables
pub write_read : (lim : Limits) → most_bytes lim < 2 ^ 32 → (list lo hi out : List ℕ) (size : ℕ) → write_of lim list lo hi (length out) ≡ Ok size → ReadsBack lim (take size (out_after lim list lo hi out)) list lo hi
write_read lim small list lo hi out size h =
    rw (write_puts lim list lo hi out size h).0 (plan_reads lim small list lo hi (wrote_yes lim list lo hi (length out) size h).0)

-- what `read` accepts, written again from its parts, gives the same bytes
pub read_write : (lim : Limits) (s : List ℕ) (x : Shape) → AllBytes s → read_of lim s ≡ Ok x → WritesBack lim s
read_write lim s x bytes h = plan_writes lim s (read_yes lim s x h) bytes

-- two accepted plans with the same parts are the same bytes
pub same_parts : (lim : Limits) (s t : List ℕ) (x y : Shape) → AllBytes s → AllBytes t → read_of lim s ≡ Ok x → read_of lim t ≡ Ok y → list_of s ≡ list_of t → low_of s ≡ low_of t → high_of s ≡ high_of t → s ≡ t
same_parts lim s t x y bs bt p q a b c =
    sym (plan_again lim s (read_yes lim s x p) bs) ∙ rw (a, b, c) (plan_again lim t (read_yes lim t y q) bt)

-- every execution of an accepted plan is good
pub accepted_good : (lim : Limits) (s : List ℕ) (x : Shape) → read_of lim s ≡ Ok x → EveryExecutionGood (frame_of (list_of s) (low_of s) (high_of s))
accepted_good lim s x h =
    (yes_good lim (list_of s) (low_of s) (high_of s) (read_yes lim s x h).checked).1

-- the first edition is small enough for a distance of 32 bits
pub first_small : most_bytes first_edition < 2 ^ 32
first_small = omega arith

-- an accepted plan is no longer than the limits allow
pub longest_plan : (lim : Limits) (s : List ℕ) (x : Shape) → read_of lim s ≡ Ok x → length s ≤ most_bytes lim
longest_plan lim s x h =
    let r = read_yes lim s x h in
    let a = front_accepted lim s _ (omega arith) r.front in
    omega (arith, front_length lim s r.long r.front, a.most_jobs, a.most_edges, a.most_slots)

-- in the first edition: at most 3,216 bytes
pub largest_plan : (s : List ℕ) (x : Shape) → read_of first_edition s ≡ Ok x → length s ≤ 3216
largest_plan s x h = longest_plan first_edition s x h
