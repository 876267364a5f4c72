-- A store as its whole plans and the bytes behind them: whatever lies there and begins no plan, the walk finds the same.
-- Assumes nothing.
use Prim.Native.Nat.{ℕ, ◌+◌, ◌-◌, ◌≤◌}
use mathlib.Core.Path.{◌≡◌, refl, sym, ap, subst, ◌∙◌}
use mathlib.Core.Bool.{false}
use mathlib.Core.List.{List, [], ◌∷◌, ◌++◌}
use native.Mathlib.Omega.{arith}
use lib.ListN.{length, take, drop, replicate, length-drop, take-append-drop}
use lib.Seq.{length-take-le, take_at, drop-append-le, take-append-le, get_or-drop}
use Rattle.std.specs.Prelude.{Ok}
use Rattle.basics.specs.Limits.{Limits}
use Rattle.planfile.specs.Round.{AllBytes}
use Rattle.logwalk.specs.Walk.{plan_at, end_of, walk, last_in, last_end}
use Rattle.planlog.specs.Writes.{zeros, after}
use Rattle.logwalk.specs.Answer.{bytes_of, newest_in}
use Rattle.planlog.specs.Cut.{Kept}
use Rattle.logwalk.specs.declared.Span.{Span}
use Rattle.logwalk.proofs.Here.{behind_plan}
use Rattle.logwalk.proofs.Plans.{Plans, walk_plans, walk_ends, end_within, walk_is, plans_front}
use Rattle.planlog.proofs.Writes.{zeros_form}

-- a store: its whole plans, and what is behind them
module _ (lim : Limits) (s : List ℕ) where
  abbrev pub front : List ℕ
  front = take (last_end lim s) s

  abbrev pub rest : List ℕ
  rest = drop (last_end lim s) s

  pub front_length : length front ≡ last_end lim s
  front_length = length-take-le (last_end lim s) s (end_within lim s)

  pub split : front ++ rest ≡ s
  split = take-append-drop (last_end lim s) s

  pub old_plans : (u : List ℕ) → Plans lim (front ++ u) 0 (last_end lim s) (walk lim s)
  old_plans u =
      plans_front lim front rest u (omega (arith, front_length))
      (subst (λ x. Plans lim x 0 (last_end lim s) (walk lim s)) (sym split) (walk_plans lim s))

  pub rest_none : plan_at lim rest 0 ≡ false
  rest_none =
      sym (subst (λ x. plan_at lim x (last_end lim s) ≡ plan_at lim rest 0) split (behind_plan lim front rest (last_end lim s) front_length))
      ∙ walk_ends lim s

  -- with other bytes behind them that begin no plan, the walk finds the same
  pub stays : (u : List ℕ) → plan_at lim u 0 ≡ false → walk lim (front ++ u) ≡ walk lim s
  stays u h =
      walk_is lim (front ++ u) (old_plans u) (behind_plan lim front u (last_end lim s) front_length ∙ h)

  -- the store that k zeros leave
  pub zeroed : (k : ℕ) → k ≤ length s - last_end lim s → after s (take k (zeros (last_end lim s) (length s - last_end lim s))) ≡ front ++ (take (length s - last_end lim s - k) rest ++ replicate k 0)
  zeroed k h =
      rw (split, front_length, length-drop (last_end lim s) s) at (zeros_form front rest k (omega (arith, length-drop (last_end lim s) s)))

  pub rest_bytes : AllBytes s → AllBytes rest
  rest_bytes bytes i h =
      rw (get_or-drop (last_end lim s) s i 0) (bytes (last_end lim s + i) (omega (arith, length-drop (last_end lim s) s)))

  -- every part that ends before the end of the last plan
  part_front : (u : List ℕ) (p : Span) → end_of p ≤ last_end lim s → bytes_of (front ++ u) p ≡ bytes_of front p
  part_front u p h =
      rw (drop-append-le p.start front u (omega (arith, front_length)))
      (take-append-le p.size (drop p.start front) u (omega (arith, front_length, length-drop p.start front)))

  pub kept : (x u : List ℕ) → length x ≡ length s → x ≡ front ++ u → Kept lim s x
  kept x u n e = record {
    size = n;
    bytes = rw e (take_at front u (last_end lim s) front_length);
    each = λ p h. rw e (part_front u p h) ∙ sym (subst (λ y. bytes_of y p ≡ bytes_of front p) split (part_front rest p h));
  }

-- the last of some plans is the one put behind them
last_snoc : (p q : Span) (l : List Span) → last_in p (l ++ (q ∷ [])) ≡ q
unfolding last_in
last_snoc p q [] = refl
last_snoc p q (r ∷ l) = last_snoc r q l

pub newest_snoc : (q : Span) (l : List Span) → newest_in (l ++ (q ∷ [])) ≡ Ok q
unfolding last_in
newest_snoc q [] = refl
newest_snoc q (p ∷ l) = ap Ok (last_snoc p q l)
