-- The largest of some bytes is at most n exactly where each is, and what a chain says of a list, said of the places below n.
-- Assumes nothing.
use Rattle.std.proofs.Common.{◌≡◌, ℕ, zero, suc, zero-add, ◌++◌, ◌+◌, ◌-◌, ◌%◌, ◌^◌, ◌<◌, ◌≤◌, Bool, true, false, ◌&&◌, ltb, leb, max, fold, List, [], ◌∷◌, length, get_or, take, sym, refl, ap, ◌∙◌, ap₂, add-one, arith, le-leb}
use mathlib.Core.Bool.{and-true, and_assoc}
use Rattle.std.specs.List.{list_all, range_with_len}
use Rattle.std.proofs.lemmas.List.Folds.{list_all-append, list_all_more}
use Rattle.std.proofs.lemmas.List.Sums.{fold-append}
use Rattle.std.proofs.lemmas.Bool.Decides.{nat_tests}
use Rattle.basics.specs.Below.{all_below, all_of}
use Rattle.parts.specs.Scan.{byte_ok}

-- the larger of two
pub max_ok : (n w x : ℕ) → leb (max w x) n ≡ (leb w n && leb x n)
max_ok n w x = grind (arith, nat_tests)

-- one more than a byte, modulo 256, is at most n exactly where the byte is idle or below n
pub rank_ok : (n x : ℕ) → x < 256 → leb ((x + 1) % 2 ^ 8) n ≡ byte_ok n x
unfolding byte_ok
rank_ok n x l = grind (arith, nat_tests)

-- below n, where there is an n
pub below_is : (n x : ℕ) → 1 ≤ n → ltb x n ≡ leb x (n - 1)
below_is n x h = grind (arith, nat_tests)

-- the largest of a list
pub fold_ok : (r : ℕ → ℕ) (p : ℕ → Bool) (n : ℕ) (xs : List ℕ) (w : ℕ) → ((k : ℕ) → k < length xs → leb (r (get_or xs k 0)) n ≡ p (get_or xs k 0))
    → leb (fold (λ a x. max a (r x)) w xs) n ≡ (leb w n && list_all p xs)
fold_ok r p n [] w h = sym (and-true (leb w n))
fold_ok r p n (x ∷ xs) w h =
    fold_ok r p n xs (max w (r x)) (λ k l. h (suc k) (omega arith))
    ∙ ap (λ b. b && list_all p xs) (max_ok n w (r x) ∙ ap (λ b. leb w n && b) (h 0 (omega arith)))
    ∙ and_assoc (leb w n) (p x) (list_all p xs)

pub largest_ok : (r : ℕ → ℕ) (p : ℕ → Bool) (n : ℕ) (xs : List ℕ) → ((k : ℕ) → k < length xs → leb (r (get_or xs k 0)) n ≡ p (get_or xs k 0))
    → leb (fold (λ a x. max a (r x)) 0 xs) n ≡ list_all p xs
largest_ok r p n xs h = fold_ok r p n xs 0 h ∙ ap (λ b. b && list_all p xs) (le-leb 0 n (omega arith))

-- the first n of a list, by their places
pub slice_all : (p f : ℕ → Bool) (xs : List ℕ) (n : ℕ) → n ≤ length xs → ((i : ℕ) → i < n → p (get_or xs i 0) ≡ f i) → list_all p (take n xs) ≡ all_below f n
unfolding all_below
slice_all p f xs zero l h = refl
slice_all p f xs (suc n) l h =
    ap (λ k. list_all p (take k xs)) (sym (add-one n)) ∙ list_all_more p xs n 0 (omega arith)
    ∙ ap₂ (λ a b. a && b) (slice_all p f xs n (omega arith) (λ i k. h i (omega arith))) (h n (omega arith))

range_more : (a n : ℕ) → range_with_len a (suc n) ≡ range_with_len a n ++ (a + n) ∷ []
range_more a zero = ap (λ k. k ∷ []) (omega arith)
range_more a (suc n) =
    ap (λ l. a ∷ l) (range_more (a + 1) n ∙ ap (λ k. range_with_len (a + 1) n ++ k ∷ []) (omega arith))

-- the numbers below n
pub range_all : (f : ℕ → Bool) (n : ℕ) → list_all f (range_with_len 0 n) ≡ all_below f n
unfolding all_below
range_all f zero = refl
range_all f (suc n) =
    ap (list_all f) (range_more 0 n) ∙ list_all-append f (range_with_len 0 n) ((0 + n) ∷ [])
    ∙ ap₂ (λ a b. a && b) (range_all f n) (and-true (f (0 + n)) ∙ ap f (zero-add n))

-- the largest of some turns is at most n exactly where each turn adds no more
pub turns_ok : (h : ℕ → ℕ → ℕ) (f : ℕ → Bool) (n : ℕ) → ((a t : ℕ) → leb (h a t) n ≡ (leb a n && f t)) → (k : ℕ) → leb (fold h 0 (range_with_len 0 k)) n ≡ all_below f k
unfolding all_below
turns_ok h f n turn zero = le-leb 0 n (omega arith)
turns_ok h f n turn (suc k) =
    ap (λ l. leb (fold h 0 l) n) (range_more 0 k) ∙ ap (λ x. leb x n) (fold-append h 0 (range_with_len 0 k) ((0 + k) ∷ []))
    ∙ turn (fold h 0 (range_with_len 0 k)) (0 + k) ∙ ap₂ (λ a b. a && b) (turns_ok h f n turn k) (ap f (zero-add k))

-- one slot more is a byte of either table more
pub slot_turn : (n a x y : ℕ) → x < 256 → y < 256 → leb (max (max a ((x + 1) % 2 ^ 8)) ((y + 1) % 2 ^ 8)) n ≡ (leb a n && all_of (byte_ok n x ∷ byte_ok n y ∷ []))
unfolding all_of
slot_turn n a x y p q =
    max_ok n (max a ((x + 1) % 2 ^ 8)) ((y + 1) % 2 ^ 8)
    ∙ ap₂ (λ b c. b && c) (max_ok n a ((x + 1) % 2 ^ 8) ∙ ap (λ b. leb a n && b) (rank_ok n x p)) (rank_ok n y q)
    ∙ three (leb a n) (byte_ok n x) (byte_ok n y)
  where
    three : (a b c : Bool) → ((a && b) && c) ≡ (a && (b && (c && true)))
    three false b c = refl
    three true false c = refl
    three true true c = sym (and-true c)
