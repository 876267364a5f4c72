-- A plan at a place of the store: it lies within it, and only its own bytes count.
-- Assumes nothing.
use Prim.Native.Nat.{ℕ, ◌+◌, ◌≤◌, ◌<◌}
use mathlib.Core.Path.{◌≡◌, sym, ap, ◌∙◌}
use mathlib.Core.Bool.{true, false}
use mathlib.Core.List.{List, ◌++◌}
use native.Mathlib.Omega.{arith}
use lib.ListN.{length, take, drop, length-take, length-drop, take-append-drop}
use lib.Seq.{take-append-le, drop-append-le, drop_at}
use Rattle.basics.specs.Limits.{Limits}
use Rattle.joblist.proofs.Tested.{not_so}
use Rattle.planfile.specs.Plan.{least_bytes}
use Rattle.planfile.proofs.Front.{front_jobs, front_edges, front_slots}
use Rattle.logwalk.specs.Walk.{accepts, size_of, size_at, bytes_at, plan_at}
use Rattle.logwalk.proofs.Reader.{long, size}

-- no plan is shorter than its head and its trailer
pub size_least : (s : List ℕ) → least_bytes ≤ size_of s
unfolding size_of
size_least s = omega arith

-- the head alone gives the size
pub size_front : (t u : List ℕ) → least_bytes ≤ length t → size_of (t ++ u) ≡ size_of t
unfolding size_of
size_front t u h =
    omega (arith, front_jobs t u (omega arith), front_edges t u (omega arith), front_slots t u (omega arith))

pub size_take : (k : ℕ) (t : List ℕ) → least_bytes ≤ k → least_bytes ≤ length t → size_of (take k t) ≡ size_of t
size_take k t h g =
    let n : least_bytes ≤ length (take k t) = omega (arith, length-take k t) in
    sym (rw (take-append-drop k t) at (size_front (take k t) (drop k t) n))

-- an accepted plan at `at`
module _ (lim : Limits) (s : List ℕ) (at : ℕ) (here : plan_at lim s at ≡ true) where
  pub taken : accepts lim (bytes_at s at) ≡ true
  unfolding plan_at
  taken = here

  pub plan_size : length (bytes_at s at) ≡ size_at s at
  plan_size =
      let n = long lim (bytes_at s at) taken in
      let e = size_take (size_at s at) (drop at s) (size_least (drop at s)) (omega (arith, length-take (size_at s at) (drop at s))) in
      size lim (bytes_at s at) taken ∙ e

  pub plan_fits : at + size_at s at ≤ length s
  plan_fits =
      omega (arith, plan_size, length-take (size_at s at) (drop at s), length-drop at s, size_least (drop at s))

-- there is none where it does not lie within the store
pub plan_beyond : (lim : Limits) (s : List ℕ) (at : ℕ) → length s < at + size_at s at → plan_at lim s at ≡ false
plan_beyond lim s at h = sym (not_so _ (λ e. omega (arith, plan_fits lim s at e)))

-- the bytes behind a plan do not count
pub front_whole : (p t : List ℕ) (at : ℕ) → at + size_at (p ++ t) at ≤ length p → size_at (p ++ t) at ≡ size_at p at
front_whole p t at h =
    rw (drop-append-le at p t (omega arith))
    (size_front (drop at p) t (omega (arith, length-drop at p, size_least (drop at (p ++ t)))))

module _ (p t : List ℕ) (at : ℕ) (fits : at + size_at p at ≤ length p) where
  tail : drop at (p ++ t) ≡ drop at p ++ t
  tail = drop-append-le at p t (omega arith)

  pub front_size : size_at (p ++ t) at ≡ size_at p at
  front_size =
      rw tail (size_front (drop at p) t (omega (arith, length-drop at p, size_least (drop at p))))

  pub front_bytes : bytes_at (p ++ t) at ≡ bytes_at p at
  front_bytes =
      rw (front_size, tail) (take-append-le (size_at p at) (drop at p) t (omega (arith, length-drop at p)))

  pub front_plan : (lim : Limits) → plan_at lim (p ++ t) at ≡ plan_at lim p at
  unfolding plan_at
  front_plan lim = ap (accepts lim) front_bytes

-- the bytes before a plan do not count either
pub behind_plan : (lim : Limits) (p t : List ℕ) (at : ℕ) → length p ≡ at → plan_at lim (p ++ t) at ≡ plan_at lim t 0
unfolding plan_at
behind_plan lim p t at e = rw (drop_at p t at e)

pub behind_size : (p t : List ℕ) (at : ℕ) → length p ≡ at → size_at (p ++ t) at ≡ size_of t
behind_size p t at e = rw (drop_at p t at e)
