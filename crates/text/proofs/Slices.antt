-- What the library's calls on a slice say, in the words of the definitions here.
-- Assumes nothing.
use Rattle.std.proofs.Common.{ℕ, zero, suc, ◌+◌, ◌-◌, ◌*◌, ◌<◌, ◌≤◌, ◌≡◌, Bool, true, false, ◌&&◌, List, [], ◌∷◌, ◌++◌, length, get_or, take, drop, eqb, refl, sym, ap, ◌∙◌, arith, Option, Some, None, MatchOption}
use Rattle.std.proofs.Math.Bool.{and_assoc, and_comm, and-true}
use Rattle.std.proofs.lemmas.List.{get_or-drop}
use borrow.Author.Tests.{ne_eqb}
use lib.ListN.{length-drop, length-append, get_or-append}
use Rattle.std.proofs.Math.Seq.{take-length, drop-drop, drop-append_seam}
use Rattle.std.proofs.Math.Dec.{eqb-suc-suc}
use Rattle.std.specs.Cmp.Lexicographic.{pointwise}
use Rattle.std.specs.List.{list_all, AllWithin, HoldsAt}
use Rattle.basics.specs.Below.{all_below}
use Rattle.basics.specs.Find.{lowest}
use Rattle.basics.proofs.Find.{lowest_hit, lowest_skip, lowest_end}
use Rattle.text.specs.Slice.{same_bytes}

-- the first of the tests, and the others
all_front : (f : ℕ → Bool) (n : ℕ) → all_below f (suc n) ≡ (f 0 && all_below (λ i. f (suc i)) n)
unfolding all_below
all_front f zero = sym (and-true (f 0))
all_front f (suc n) = rw (all_front f n) (and_assoc (f 0) (all_below (λ i. f (suc i)) n) (f (suc n)))

-- a test of each byte
pub all_bytes : (p : ℕ → Bool) (s : List ℕ) → list_all p s ≡ all_below (λ i. p (get_or s i 0)) (length s)
unfolding all_below
all_bytes p [] = refl
all_bytes p (x ∷ s) = rw (all_bytes p s) (sym (all_front (λ i. p (get_or (x ∷ s) i 0)) (length s)))

-- two tests in the other order
swapped : (a b c : Bool) → (a && (b && c)) ≡ (b && (a && c))
swapped a b c = sym (and_assoc a b c) ∙ ap (λ x. x && c) (and_comm a b) ∙ and_assoc b a c

-- byte by byte, as the library compares
pub same_pointwise : (s t : List ℕ) → pointwise eqb s t ≡ same_bytes s t
unfolding same_bytes all_below
same_pointwise [] [] = refl
same_pointwise [] (y ∷ t) = let n : ¬ (0 ≡ suc (length t)) = omega arith in rw (ne_eqb 0 (suc (length t)) n)
same_pointwise (x ∷ s) [] = let n : ¬ (suc (length s) ≡ 0) = omega arith in rw (ne_eqb (suc (length s)) 0 n)
same_pointwise (x ∷ s) (y ∷ t) =
    rw (same_pointwise s t, all_front (λ i. eqb (get_or (x ∷ s) i 0) (get_or (y ∷ t) i 0)) (length s), eqb-suc-suc (length s) (length t)) (swapped (eqb x y) _ _)

-- the lowest number from i on that passes, where none before it does; or none does
module _ (f : ℕ → Bool) (n : ℕ) where
  lowest_at : (d i j : ℕ) → i + d ≡ j → j < n → ((k : ℕ) → i ≤ k → k < j → f k ≡ false) → f j ≡ true → lowest f n i ≡ j
  lowest_at zero i j e l h p = let z : i ≡ j = omega arith in lowest_hit f n i (omega arith) (ap f z ∙ p) ∙ z
  lowest_at (suc d) i j e l h p =
      lowest_skip f n i (omega arith) (h i (omega arith) (omega arith)) ∙ lowest_at d (i + 1) j (omega arith) l (λ k a b. h k (omega arith) b) p

  lowest_past : (d i : ℕ) → i + d ≡ n → ((k : ℕ) → i ≤ k → k < n → f k ≡ false) → lowest f n i ≡ n
  lowest_past zero i e h = lowest_end f n i (omega arith)
  lowest_past (suc d) i e h =
      lowest_skip f n i (omega arith) (h i (omega arith) (omega arith)) ∙ lowest_past d (i + 1) (omega arith) (λ k a b. h k (omega arith) b)

-- the bytes from a place to the end
pub from_place : (s : List ℕ) (from : ℕ) → take (length s - from) (drop from s) ≡ drop from s
from_place s from = rw (← length-drop from s) (take-length (drop from s))

-- a byte behind a place
module _ (s : List ℕ) (from x : ℕ) where
  Is : Bool → ℕ → Type 0
  Is b y = eqb y x ≡ b

  behind : (b : Bool) (k : ℕ) → from ≤ k → Is b (get_or (drop from s) (k - from) 0) → Is b (get_or s k 0)
  unfolding Is
  behind b k l h = rw (get_or-drop from s (k - from) 0, let z : from + (k - from) ≡ k = omega arith in z) at h

  -- what the first place behind it says of the search from there on
  pub found : (m : ℕ) (r : Option ℕ) → from ≤ length s
      → MatchOption r (AllWithin (λ y. eqb y x ≡ false) (drop from s) 0 (length (drop from s))) (λ i. (i < length (drop from s)) × HoldsAt (λ y. eqb y x ≡ true) (drop from s) i × AllWithin (λ y. eqb y x ≡ false) (drop from s) 0 i)
      → MatchOption r (m ≡ length s) (λ i. m ≡ from + i)
      → (m ≡ lowest (λ i. eqb (get_or s i 0) x) (length s) from) × (m ≤ length s) × (from ≤ length s → from ≤ m)
  unfolding Is
  found m None l h e =
      let none = lowest_past (λ i. eqb (get_or s i 0) x) (length s) (length s - from) from (omega arith) (λ k a b. behind false k a (h (k - from) 0 (omega arith) (omega (arith, length-drop from s)))) in
      (e ∙ sym none, omega arith, λ _. omega arith)
  found m (Some i) l h e =
      let n = length-drop from s in
      let this : eqb (get_or s (from + i) 0) x ≡ true = rw (get_or-drop from s i 0) at (h.1 0) in
      let one = lowest_at (λ k. eqb (get_or s k 0) x) (length s) i from (from + i) refl (omega arith) (λ k a b. behind false k a (h.2 (k - from) 0 (omega arith) (omega arith))) this in
      (e ∙ sym one, omega arith, λ _. omega arith)

-- a pair that comes first of what is left of s
pub record IsPair (s pair rest : List ℕ) (i : ℕ) : Type 0 where
  pub within : 2 * i + 1 < length s
  pub first : get_or pair 0 0 ≡ get_or s (2 * i) 0
  pub second : get_or pair 1 0 ≡ get_or s (2 * i + 1) 0
  pub left : rest ≡ drop (2 * (i + 1)) s

pub pair_of : (s pair rest : List ℕ) (i : ℕ) → 2 * i ≤ length s → drop (2 * i) s ≡ pair ++ rest → length pair ≡ 2 → IsPair s pair rest i
pair_of s pair rest i w e l =
    let n : length s - 2 * i ≡ 2 + length rest = sym (length-drop (2 * i) s) ∙ ap length e ∙ rw (length-append, l) in
    let at : (k : ℕ) → k < 2 → get_or pair k 0 ≡ get_or s (2 * i + k) 0 = λ k h. sym (get_or-append pair rest 0 k (omega arith)) ∙ ap (λ x. get_or x k 0) (sym e) ∙ get_or-drop (2 * i) s k 0 in
    record {
      within = omega arith;
      first = at 0 (omega arith) ∙ ap (λ k. get_or s k 0) (let z : 2 * i + 0 ≡ 2 * i = omega arith in z);
      second = at 1 (omega arith);
      left = sym (drop-append_seam pair rest) ∙ rw (l, ← e, drop-drop) (ap (λ k. drop k s) (let z : 2 * i + 2 ≡ 2 * (i + 1) = omega arith in z));
    }
