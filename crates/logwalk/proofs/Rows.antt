-- Laws of `newest`: what leads to each of its answers.
-- Assumes nothing.
use Prim.Native.Nat.{ℕ, ◌≤◌, ◌<◌}
use mathlib.Core.Path.{◌≡◌, refl, ap}
use mathlib.Core.List.{List, [], ◌∷◌}
use borrow.Author.Tests.{le-leb, lt-leb}
use lib.ListN.{length}
use Rattle.std.specs.Prelude.{Some, None, Err}
use Rattle.std.specs.Option.{ok_or}
use Rattle.basics.specs.Limits.{Limits}
use Rattle.logwalk.specs.Walk.{walk, last_in, last_plan, no_span, last_end, end_of}
use Rattle.logwalk.specs.Answer.{store_most, newest_in, newest_of}
use Rattle.logwalk.specs.declared.FindWhy.TheVariants.{Large as TooLarge, Empty}
use Rattle.logwalk.specs.declared.Span.{Span}

newest_last : (l : List Span) → ok_or (last_plan l) Empty ≡ newest_in l
newest_last [] = refl
newest_last (p ∷ l) = refl

module _ (lim : Limits) (s : List ℕ) where
  pub newest_large : store_most < length s → Err TooLarge ≡ newest_of lim s
  unfolding newest_of
  newest_large h = rw (lt-leb _ _ h)

  pub newest_walk : length s ≤ store_most → ok_or (last_plan (walk lim s)) Empty ≡ newest_of lim s
  unfolding newest_of
  newest_walk h = rw (le-leb _ _ h) (newest_last (walk lim s))

-- the end of the last plan, or of none
pub last_end_lem : (lim : Limits) (s : List ℕ) (p : Span) → p ≡ last_in no_span (walk lim s) → end_of p ≡ last_end lim s
unfolding last_end
last_end_lem lim s p e = ap end_of e

-- where the last plan that the code finds ends
pub end_some : (lim : Limits) (s : List ℕ) (p : Span) → last_plan (walk lim s) ≡ Some p → end_of p ≡ last_end lim s
unfolding last_end last_in
end_some lim s p e = go (walk lim s) refl e
  where
    go : (l : List Span) → walk lim s ≡ l → last_plan l ≡ Some p → end_of p ≡ end_of (last_in no_span (walk lim s))
    go [] w h = cc
    go (q ∷ l) w h = rw w (ap end_of (let z : p ≡ last_in q l = cc in z))

pub end_none : (lim : Limits) (s : List ℕ) → last_plan (walk lim s) ≡ None → 0 ≡ last_end lim s
unfolding last_end last_in
end_none lim s e = go (walk lim s) refl e
  where
    go : (l : List Span) → walk lim s ≡ l → last_plan l ≡ None → 0 ≡ end_of (last_in no_span (walk lim s))
    go [] w h = rw w refl
    go (q ∷ l) w h = cc
