-- A number read digit by digit.
-- Assumes nothing.
use Prim.Native.Nat.{ℕ, ◌+◌, ◌<◌, ◌≤◌}
use mathlib.Core.Path.{◌≡◌, refl}
use mathlib.Core.List.{List, [], ◌∷◌}
use native.Mathlib.Omega.{arith}
use native.Mathlib.Numerals.{add-one}
use lib.ListN.{length, get_or, drop, drop_of_length-le}
use lib.Seq.{drop-cons}
use Rattle.std.proofs.Common.{Option, Some, None}
use Rattle.text.specs.Number.{step, goes_on, number_in}

pub number_none : (most : ℕ) (s : List ℕ) → length s ≡ 0 → None ≡ number_in most s
unfolding number_in
number_none most [] h = refl
number_none most (x ∷ s) h = absurd (omega arith)

pub number_some : (most : ℕ) (s : List ℕ) → ¬ (length s ≡ 0) → number_in most s ≡ goes_on most (Some 0) (drop 0 s)
unfolding number_in
number_some most [] h = absurd (h refl)
number_some most (x ∷ s) h = refl

-- the digit at i
number_turn : (most : ℕ) (r : Option ℕ) (s : List ℕ) (i : ℕ) → i < length s → goes_on most r (drop i s) ≡ goes_on most (step most r (get_or s i 0)) (drop (i + 1) s)
unfolding goes_on
number_turn most r s i h = rw (drop-cons s i 0 h, add-one i)

-- what is no number stays none
none_stays : (most : ℕ) (s : List ℕ) → goes_on most None s ≡ None
unfolding goes_on step
none_stays most [] = refl
none_stays most (x ∷ s) = none_stays most s

pub number_more : (most n m : ℕ) (s : List ℕ) (i : ℕ) → i < length s → step most (Some n) (get_or s i 0) ≡ Some m → goes_on most (Some n) (drop i s) ≡ goes_on most (Some m) (drop (i + 1) s)
number_more most n m s i h e = rw (number_turn most (Some n) s i h, e)

pub number_stops : (most n : ℕ) (s : List ℕ) (i : ℕ) → i < length s → step most (Some n) (get_or s i 0) ≡ None → goes_on most (Some n) (drop i s) ≡ None
number_stops most n s i h e = rw (number_turn most (Some n) s i h, e) (none_stays most _)

pub number_ends : (most n : ℕ) (s : List ℕ) (i : ℕ) → length s ≤ i → goes_on most (Some n) (drop i s) ≡ Some n
unfolding goes_on
number_ends most n s i h = rw (drop_of_length-le s h)
