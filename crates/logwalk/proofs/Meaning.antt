-- What the walk is: it misses no plan, and with limits that accept more it goes on where it ended.
-- Assumes nothing.
use Prim.Native.Nat.{ℕ, ◌≤◌}
use mathlib.Core.Path.{◌≡◌, sym, ◌∙◌}
use mathlib.Core.Bool.{true, false}
use mathlib.Core.List.{List, ◌++◌}
use native.Mathlib.Omega.{arith}
use lib.ListN.{length, take, drop, length-take, length-drop}
use lib.Seq.{take_all}
use native.Mathlib.Decide.{dec_le}
use Rattle.basics.specs.Limits.{Limits}
use Rattle.basics.proofs.Tests.{not_both}
use Rattle.joblist.proofs.Tested.{not_so}
use Rattle.logwalk.specs.Walk.{accepts, size_of, size_at, bytes_at, plan_at, walk_from, walk, last_end}
use Rattle.logwalk.specs.declared.Span.{Span}
use Rattle.logwalk.proofs.Reader.{long, size}
use Rattle.logwalk.proofs.Here.{size_take}
use Rattle.logwalk.proofs.Plans.{Plans, stop, more, plans_join, walked, walk_plans, walk_ends, walk_is}

-- an accepted plan that begins at `at`, of whatever length, is the one that the walk finds there
pub begins : (lim : Limits) (s : List ℕ) (at k : ℕ) → accepts lim (take k (drop at s)) ≡ true → (plan_at lim s at ≡ true) × (take k (drop at s) ≡ bytes_at s at)
unfolding plan_at
begins lim s at k good =
    let b = take k (drop at s) in
    let n = long lim b good in
    let c = length-take k (drop at s) in
    let e : size_of b ≡ size_at s at = size_take k (drop at s) (omega arith) (omega arith) in
    let z : length b ≡ size_at s at = size lim b good ∙ e in
    let same : b ≡ bytes_at s at = whole z (dec_le k (length (drop at s))) in
    (rw same at good, same)
  where
    whole : length (take k (drop at s)) ≡ size_at s at → Dec (k ≤ length (drop at s)) → take k (drop at s) ≡ bytes_at s at
    whole z (yes h) = let y : k ≡ size_at s at = omega (arith, length-take k (drop at s)) in rw y
    whole z (no h) =
        let y : length (drop at s) ≤ size_at s at = omega (arith, length-take k (drop at s)) in
        take_all k (drop at s) (omega arith) ∙ sym (take_all (size_at s at) (drop at s) y)

-- the walk ends where no accepted plan begins, of whatever length
pub none_begins : (lim : Limits) (s : List ℕ) (k : ℕ) → accepts lim (take k (drop (last_end lim s) s)) ≡ false
none_begins lim s k =
    sym (not_so _ (λ good. not_both (begins lim s (last_end lim s) k good).0 (walk_ends lim s)))

-- where the reader of other limits accepts all that this one does
module _ (lim other : Limits) (wider : (b : List ℕ) → accepts lim b ≡ true → accepts other b ≡ true) (s : List ℕ) where
  plan_wider : (at : ℕ) → plan_at lim s at ≡ true → plan_at other s at ≡ true
  unfolding plan_at
  plan_wider at h = wider (bytes_at s at) h

  plans_wider : {a b : ℕ} {l : List Span} → Plans lim s a b l → Plans other s a b l
  plans_wider stop = stop
  plans_wider (more {a = a} h r) = more (plan_wider a h) (plans_wider r)

  -- its walk finds the same plans, and may go on behind them
  pub walk_wider : walk other s ≡ walk lim s ++ walk_from other s (last_end lim s)
  walk_wider =
      let w = walked other s (length (drop (last_end lim s) s)) (last_end lim s) (omega (arith, length-drop (last_end lim s) s)) in
      walk_is other s (plans_join other s (plans_wider (walk_plans lim s)) w.plans) w.stops
