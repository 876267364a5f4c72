-- Laws of `entries`: one turn of the loop that fills it, and what stands in it.
-- Assumes nothing.
use Prim.Native.Nat.{ℕ, zero, suc, ◌+◌, ◌≤◌, ◌<◌}
use mathlib.Core.Path.{◌≡◌, refl, sym, ap, ap₂, ◌∙◌}
use mathlib.Core.List.{List, [], ◌∷◌, ◌++◌}
use native.Mathlib.Decide.{ℕ_discrete}
use native.Mathlib.Nat.{le_antisymm, zero-add, suc-add}
use native.Mathlib.Numerals.{add-one}
use native.Mathlib.Omega.{arith}
use lib.ListN.{length, get_or, set, replicate, length-set, length-replicate, replicate-append-replicate, get_or-append}
use lib.Seq.{get_or-set_same, get_or-set_other, get_or-append-add, set-append_left}
use Rattle.dispatch.specs.Open.{entries}

pub entries_same : (k : ℕ) (f g : ℕ → ℕ) (n : ℕ) → ((i : ℕ) → i < n → f i ≡ g i) → entries k f n ≡ entries k g n
unfolding entries
entries_same k f g zero h = refl
entries_same k f g (suc n) h =
    ap₂ (λ l x. set l n x) (entries_same k f g n (λ i l. h i (omega arith))) (h n (omega arith))

module _ (k : ℕ) (f : ℕ → ℕ) where
  pub entries_none : replicate k 0 ≡ entries k f 0
  unfolding entries
  entries_none = refl

  pub entries_turn : (l : List ℕ) (n v : ℕ) → l ≡ entries k f n → v ≡ f n → set l n v ≡ entries k f (n + 1)
  unfolding entries
  entries_turn l n v p q = ap₂ (λ m x. set m n x) p q ∙ ap (entries k f) (sym (add-one n))

  pub entries_done : (l : List ℕ) (n i : ℕ) → i ≤ n → n ≤ i → l ≡ entries k f i → l ≡ entries k f n
  entries_done l n i a b p = p ∙ ap (entries k f) (le_antisymm a b)

  pub entries_length : (n : ℕ) → length (entries k f n) ≡ k
  unfolding entries
  entries_length zero = length-replicate k 0
  entries_length (suc n) = length-set (entries k f n) n (f n) ∙ entries_length n

  -- entry i is f i
  pub entries_at : (n : ℕ) → n ≤ k → (i : ℕ) → i < n → get_or (entries k f n) i 0 ≡ f i
  unfolding entries
  entries_at zero l i h = absurd (omega arith)
  entries_at (suc n) l i h = go (ℕ_discrete i n) (λ q. entries_at n (omega arith) i q)
    where
      go : Dec (i ≡ n) → (i < n → get_or (entries k f n) i 0 ≡ f i) → get_or (set (entries k f n) n (f n)) i 0 ≡ f i
      go (yes p) r =
          ap (λ j. get_or (set (entries k f n) n (f n)) j 0) p ∙ get_or-set_same (entries k f n) n (f n) 0 (omega (arith, entries_length n)) ∙ ap f (sym p)
      go (no p) r = get_or-set_other (entries k f n) n i (f n) 0 p ∙ r (omega arith)

-- a store into the second of two lists
set_append_add : (xs ys : List ℕ) (i a : ℕ) → set (xs ++ ys) (length xs + i) a ≡ xs ++ set ys i a
set_append_add [] ys i a = ap (λ k. set ys k a) (zero-add i)
set_append_add (x ∷ xs) ys i a = ap (λ k. set (x ∷ (xs ++ ys)) k a) (suc-add (length xs) i) ∙ ap (λ (l : List ℕ). x ∷ l) (set_append_add xs ys i a)

-- Two rows side by side, filled together.
module _ (k : ℕ) (f g : ℕ → ℕ) where
  pub both_none : replicate (k + k) 0 ≡ entries k f 0 ++ entries k g 0
  unfolding entries
  both_none = sym (replicate-append-replicate k k 0)

  pub both_turn : (l : List ℕ) (n : ℕ) → n < k → l ≡ entries k f n ++ entries k g n
      → set (set l n (f n)) (k + n) (g n) ≡ entries k f (n + 1) ++ entries k g (n + 1)
  unfolding entries
  both_turn l n h p =
      let e : set l n (f n) ≡ set (entries k f n) n (f n) ++ entries k g n =
      ap (λ (m : List ℕ). set m n (f n)) p ∙ set-append_left (entries k f n) (entries k g n) n (f n) (omega (arith, entries_length k f n)) in
      let w : length (set (entries k f n) n (f n)) ≡ k = length-set (entries k f n) n (f n) ∙ entries_length k f n in
      ap₂ (λ (m : List ℕ) i. set m (i + n) (g n)) e (sym w)
      ∙ set_append_add (set (entries k f n) n (f n)) (entries k g n) n (g n)
      ∙ ap (λ i. entries k f i ++ entries k g i) (sym (add-one n))

  pub both_done : (l : List ℕ) (n i : ℕ) → i ≤ n → n ≤ i → l ≡ entries k f i ++ entries k g i → l ≡ entries k f n ++ entries k g n
  both_done l n i a b p = p ∙ ap (λ m. entries k f m ++ entries k g m) (le_antisymm a b)

  -- what stands in the first, and in the second
  pub first_at : (n : ℕ) → n ≤ k → (i : ℕ) → i < n → get_or (entries k f n ++ entries k g n) i 0 ≡ f i
  first_at n l i h = get_or-append (entries k f n) (entries k g n) 0 i (omega (arith, entries_length k f n)) ∙ entries_at k f n l i h

  pub second_at : (n : ℕ) → n ≤ k → (i : ℕ) → i < n → get_or (entries k f n ++ entries k g n) (k + i) 0 ≡ g i
  second_at n l i h =
      ap (λ m. get_or (entries k f n ++ entries k g n) (m + i) 0) (sym (entries_length k f n))
      ∙ get_or-append-add (entries k f n) (entries k g n) i 0 ∙ entries_at k g n l i h
