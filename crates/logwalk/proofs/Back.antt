-- From the end of the last whole plan back: each trailer leads to its plan's start, so that the plans of the walk are listed newest first.
-- Assumes nothing.
use Prim.Native.Nat.{ℕ, zero, suc, ◌+◌, ◌-◌, ◌≤◌, ◌<◌}
use mathlib.Core.Path.{◌≡◌, refl, sym, ◌∙◌}
use mathlib.Core.Bool.{true, false}
use mathlib.Core.List.{List, [], ◌∷◌, ◌++◌, append_assoc, append-nil, reverse, reverse-cons}
use native.Mathlib.Omega.{arith}
use borrow.Author.Tests.{le-leb, lt-leb}
use lib.ListN.{length, get_or, take, drop, length-take, length-drop}
use lib.Seq.{length-take-le, take-take, get_or-take, get_or-drop}
use Rattle.std.proofs.lemmas.Slice.{between_is}
use Rattle.std.specs.Prelude.{None, Ok, Err, is_ok}
use Rattle.std.specs.Bool.{then_some}
use Rattle.basics.specs.Bytes.{u32_at}
use Rattle.basics.specs.Limits.{Limits}
use Rattle.planfile.specs.Plan.{trailer_bytes}
use Rattle.planfile.specs.Answer.{read_of}
use Rattle.joblist.proofs.Tested.{not_so}
use Rattle.logwalk.specs.Walk.{accepts, size_at, plan_at, span_at, walk, last_in, last_end}
use Rattle.logwalk.specs.Answer.{store_most, newest_in, newest_of, start_before, span_before, bytes_of, plan_before, previous_of}
use Rattle.logwalk.specs.Back.{back_from, newest_first}
use Rattle.logwalk.specs.declared.FindWhy.TheVariants.{Empty}
use Rattle.logwalk.specs.declared.Span.{Span}
use Rattle.logwalk.proofs.Reader.{long, back, none}
use Rattle.logwalk.proofs.Here.{size_least, taken, plan_fits}
use Rattle.logwalk.proofs.Plans.{Plans, stop, more, plans_rise, walk_plans, end_within}

-- a number within a part of the store
pub u32_part : (s : List ℕ) (at k i : ℕ) → i + 3 < k → u32_at (take k (drop at s)) i ≡ u32_at s (at + i)
unfolding u32_at
u32_part s at k i h =
    let a : get_or (take k (drop at s)) i 0 ≡ get_or s (at + i) 0 = get_or-take k (drop at s) i 0 (omega arith) ∙ get_or-drop at s i 0 in
    let b : get_or (take k (drop at s)) (i + 1) 0 ≡ get_or s (at + (i + 1)) 0 = get_or-take k (drop at s) (i + 1) 0 (omega arith) ∙ get_or-drop at s (i + 1) 0 in
    let c : get_or (take k (drop at s)) (i + 2) 0 ≡ get_or s (at + (i + 2)) 0 = get_or-take k (drop at s) (i + 2) 0 (omega arith) ∙ get_or-drop at s (i + 2) 0 in
    let d : get_or (take k (drop at s)) (i + 3) 0 ≡ get_or s (at + (i + 3)) 0 = get_or-take k (drop at s) (i + 3) 0 (omega arith) ∙ get_or-drop at s (i + 3) 0 in
    let e : at + (i + 1) ≡ at + i + 1 = omega arith in
    let f : at + (i + 2) ≡ at + i + 2 = omega arith in
    let g : at + (i + 3) ≡ at + i + 3 = omega arith in
    rw (a, b, c, d, e, f, g)

-- an accepted plan that ends at `end` is the one that `previous` finds: its trailer leads to its start
module _ (lim : Limits) (s : List ℕ) (at end : ℕ) (rises : at ≤ end) (within : end ≤ length s) (good : accepts lim (take (end - at) (drop at s)) ≡ true) where
  part_size : length (take (end - at) (drop at s)) ≡ end - at
  part_size = length-take-le (end - at) (drop at s) (omega (arith, length-drop at s))

  distance : u32_at s (end - trailer_bytes) ≡ end - at - trailer_bytes
  distance =
      let l = long lim (take (end - at) (drop at s)) good in
      let n = part_size in
      let e : at + (end - at - trailer_bytes) ≡ end - trailer_bytes = omega arith in
      rw (← e, ← u32_part s at (end - at) (end - at - trailer_bytes) (omega arith))
      (rw part_size at (back lim (take (end - at) (drop at s)) good))

  start : start_before s end ≡ at
  unfolding start_before
  start = rw distance (omega (arith, part_size, long lim (take (end - at) (drop at s)) good))

  pub ends : length s ≤ store_most → previous_of lim s end ≡ Ok (record { start = at; size = end - at })
  unfolding previous_of plan_before
  ends small = rw (le-leb _ _ small, le-leb _ _ within, start, good)

-- so it is with a plan of the walk
previous_here : (lim : Limits) (s : List ℕ) (at : ℕ) → plan_at lim s at ≡ true → length s ≤ store_most → previous_of lim s (at + size_at s at) ≡ Ok (span_at s at)
previous_here lim s at here small =
    let e : at + size_at s at - at ≡ size_at s at = omega arith in
    let g : accepts lim (take (at + size_at s at - at) (drop at s)) ≡ true = rw e (taken lim s at here) in
    rw e at (ends lim s at (at + size_at s at) (omega arith) (plan_fits lim s at here) g small)

-- before the first byte there is none
previous_none : (lim : Limits) (s : List ℕ) → length s ≤ store_most → previous_of lim s 0 ≡ Err Empty
unfolding previous_of plan_before start_before
previous_none lim s small =
    let e : 0 - trailer_bytes - u32_at s (0 - trailer_bytes) ≡ 0 = omega arith in
    rw (le-leb _ _ small, le-leb 0 (length s) (omega arith), e, none lim [] (omega arith))

module _ (lim : Limits) (s : List ℕ) (small : length s ≤ store_most) where
  back_more : (k at : ℕ) → plan_at lim s at ≡ true → back_from lim s (suc k) (at + size_at s at) ≡ span_at s at ∷ back_from lim s k at
  unfolding back_from
  back_more k at h = rw (previous_here lim s at h small)

  back_stop : (k : ℕ) → back_from lim s k 0 ≡ []
  unfolding back_from
  back_stop zero = refl
  back_stop (suc k) = rw (previous_none lim s small)

  back_plans : {a b : ℕ} {l : List Span} → Plans lim s a b l → (k : ℕ) → b ≤ a + k → back_from lim s k b ≡ reverse l ++ back_from lim s (k - length l) a
  back_plans (stop {a = a}) k h = let e : k - 0 ≡ k = omega arith in rw e
  back_plans (more {a = a} {b = b} {l = l} w r) k h =
      let g = plans_rise lim s r in
      let z = size_least (drop a s) in
      let m = k - suc (length l) in
      let e : k - length l ≡ suc m = omega arith in
      back_plans r k (omega arith)
      ∙ rw (e, back_more m a w, reverse-cons (span_at s a) l) (sym (append_assoc (reverse l) (span_at s a ∷ []) (back_from lim s m a)))

  -- the plans of the walk, newest first
  pub newest_first_lem : newest_first lim s ≡ reverse (walk lim s)
  unfolding newest_first
  newest_first_lem =
      back_plans (walk_plans lim s) (length s) (omega (arith, end_within lim s))
      ∙ rw (back_stop (length s - length (walk lim s))) (append-nil (reverse (walk lim s)))

-- from the end of the last whole plan `previous` finds what `newest` finds
module _ (lim : Limits) (s : List ℕ) (small : length s ≤ store_most) where
  back_last : {a b : ℕ} {l : List Span} → Plans lim s a b l → (p : Span) → previous_of lim s a ≡ Ok p → previous_of lim s b ≡ Ok (last_in p l)
  unfolding last_in
  back_last stop p h = h
  back_last (more {a = a} w r) p h = back_last r (span_at s a) (previous_here lim s a w small)

  back_newest : {b : ℕ} {l : List Span} → Plans lim s 0 b l → previous_of lim s b ≡ newest_in l
  back_newest stop = previous_none lim s small
  back_newest (more w r) = back_last r (span_at s 0) (previous_here lim s 0 w small)

  pub newest_previous : previous_of lim s (last_end lim s) ≡ newest_of lim s
  unfolding newest_of
  newest_previous = back_newest (walk_plans lim s) ∙ rw (le-leb _ _ small)

-- what leads to each answer of the search before `end`
module _ (lim : Limits) (s : List ℕ) (end : ℕ) where
  pub before_past : length s < end → None ≡ plan_before lim s end
  unfolding plan_before
  before_past l = rw (lt-leb _ _ l)

  refused : end ≤ length s → accepts lim (bytes_of s (span_before s end)) ≡ false → None ≡ plan_before lim s end
  unfolding plan_before
  refused l e = rw (le-leb _ _ l, e)

  pub before_short : end ≤ length s → end < trailer_bytes → None ≡ plan_before lim s end
  before_short l e =
      refused l (none lim (bytes_of s (span_before s end)) (omega (arith, length-take (end - start_before s end) (drop (start_before s end) s))))

  -- with the bytes up to there, as the code takes them
  module _ (bytes : List ℕ) (here : bytes ≡ take (end - 0) (drop 0 s)) (within : end ≤ length s) where
    same_bytes : bytes ≡ take end s
    same_bytes = let e : end - 0 ≡ end = omega arith in rw e at here

    same_distance : trailer_bytes ≤ end → u32_at bytes (end - trailer_bytes) ≡ u32_at s (end - trailer_bytes)
    same_distance n =
        let o : 0 + (end - trailer_bytes) ≡ end - trailer_bytes = omega arith in
        rw same_bytes (rw o at (u32_part s 0 end (end - trailer_bytes) (omega arith)))

    pub before_far : trailer_bytes ≤ end → end - trailer_bytes < u32_at bytes (end - trailer_bytes) → None ≡ plan_before lim s end
    unfolding start_before
    before_far n far = refused within (sym (not_so _ go))
      where
        go : accepts lim (bytes_of s (span_before s end)) ≡ true → ⊥
        go good =
            let y : end - trailer_bytes - u32_at s (end - trailer_bytes) ≡ 0 = omega (arith, same_distance n) in
            let z : end - 0 ≡ end = omega arith in
            let g : accepts lim (take end s) ≡ true = rw (y, z) at good in
            let m : length (take end s) ≡ end = length-take-le end s within in
            let b = rw (m, ← same_bytes) at (back lim (take end s) g) in
            omega (arith, b)

    pub before_read : (start : ℕ) → trailer_bytes ≤ end → start ≡ end - trailer_bytes - u32_at bytes (end - trailer_bytes) → then_some (is_ok (read_of lim (take (length bytes - start) (drop start bytes)))) (record { start = start; size = end - start }) ≡ plan_before lim s end
    unfolding plan_before start_before accepts
    before_read start n at =
        let m : length bytes ≡ end = rw same_bytes (length-take-le end s within) in
        let p : take (end - start) (drop start bytes) ≡ take (end - start) (drop start s) = rw (same_bytes, ← between_is s start end) (take-take (end - start) (end - start) (drop start s) (omega arith)) in
        rw (le-leb _ _ within, ← same_distance n, ← at, m, p)
