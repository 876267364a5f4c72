-- What a store is asked for: 52 first of all; then 51, or a plan's place and size.
-- Assumes nothing.
use Rattle.std.specs.Prelude.{ℕ, ◌-◌, cond, ◌&&◌, List, [], ◌∷◌, length, take, drop, leb, Option, Result, Ok, Err}
use Rattle.std.specs.Bool.{then_some}
use Rattle.std.specs.Option.{ok_or}
use Rattle.basics.specs.Bytes.{u32_at}
use Rattle.basics.specs.Limits.{Limits}
use Rattle.planfile.specs.Plan.{trailer_bytes}
use Rattle.logwalk.specs.Walk.{accepts, walk, last_in}
use Rattle.logwalk.specs.declared.FindWhy.{FindWhy}
use Rattle.logwalk.specs.declared.FindWhy.TheVariants.{Large, Empty}
use Rattle.logwalk.specs.declared.Span.{Span}

-- no store is larger
abbrev pub store_most : ℕ
store_most = 65536

-- the newest of some plans
abbrev pub newest_in : List Span → Result Span FindWhy
newest_in [] = Err Empty
newest_in (p ∷ ps) = Ok (last_in p ps)

-- the newest whole plan: 52, 51, or its place and size
unfoldable pub newest_of : Limits → List ℕ → Result Span FindWhy
newest_of lim s = cond (leb (length s) store_most) (newest_in (walk lim s)) (Err Large)

-- the place to which the distance in the trailer before `end` leads back
unfoldable pub start_before : List ℕ → ℕ → ℕ
start_before s end = end - trailer_bytes - u32_at s (end - trailer_bytes)

-- the plan from there to `end`
abbrev pub span_before : List ℕ → ℕ → Span
span_before s end = record { start = start_before s end; size = end - start_before s end }

abbrev pub bytes_of : List ℕ → Span → List ℕ
bytes_of s p = take p.size (drop p.start s)

-- it, where the reader accepts it
unfoldable pub plan_before : Limits → List ℕ → ℕ → Option Span
plan_before lim s end =
    then_some (leb end (length s) && accepts lim (bytes_of s (span_before s end))) (span_before s end)

-- the accepted plan that ends at `end`: 52, 51 where there is none, or its place and size
unfoldable pub previous_of : Limits → List ℕ → ℕ → Result Span FindWhy
previous_of lim s end =
    cond (leb (length s) store_most) (ok_or (plan_before lim s end) Empty) (Err Large)
