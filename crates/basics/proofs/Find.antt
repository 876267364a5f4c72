-- Laws of `find`, `lowest` and `highest`.
-- Assumes nothing.
use mathlib.Core.Bool.{Bool, true, false, cond}
use mathlib.Core.Option.{Option, some, none}
use mathlib.Core.Path.{◌≡◌, refl, ap, subst, ◌∙◌}
use Prim.Native.Nat.{ℕ, zero, suc, ◌+◌, ◌-◌, ◌≤◌, ◌<◌}
use native.Mathlib.Omega.{arith}
use native.Mathlib.Numerals.{add-one}
use borrow.Author.Tests.{eqb-true, eqb-false}
use lib.Dec.{T, eqb}
use Rattle.basics.specs.Find.{find, found_or, lowest, highest}
use Rattle.basics.proofs.Tests.{of_true, of_false}

-- one turn
pub find_yes : (f : ℕ → Bool) (k i : ℕ) → f i ≡ true → find f (suc k) i ≡ some i
unfolding find
find_yes f k i p = rw (p, find)

pub find_no : (f : ℕ → Bool) (k i : ℕ) → f i ≡ false → find f (suc k) i ≡ find f k (suc i)
unfolding find
find_no f k i p = rw (p, find)

-- what is found passes, and lies where it was looked for
pub find_some : (f : ℕ → Bool) (k i x : ℕ) → find f k i ≡ some x → T (f x) × (i ≤ x) × (x < i + k)
unfolding find
find_some f zero i x e = let z : ◌≡◌ {A = ℕ} 0 1 = cc in absurd (omega arith)
find_some f (suc k) i x e = go (f i) refl e (λ q. find_some f k (suc i) x q)
  where
    go : (b : Bool) → f i ≡ b → (elim b [ true ↦ some i | false ↦ find f k (suc i) ]) ≡ some x
        → (find f k (suc i) ≡ some x → T (f x) × (suc i ≤ x) × (x < suc i + k)) → T (f x) × (i ≤ x) × (x < i + suc k)
    go true p q ih =
        let ix : i ≡ x = cc in
        (subst (λ (y : ℕ). T (f y)) ix (of_true p), omega arith, omega arith)
    go false p q ih =
        let r = ih q in
        (r.0, omega arith, omega arith)

-- where nothing is found, nothing passes
pub find_none : (f : ℕ → Bool) (k i : ℕ) → find f k i ≡ none → (x : ℕ) → i ≤ x → x < i + k → ¬ T (f x)
unfolding find
find_none f zero i e x h l = absurd (omega arith)
find_none f (suc k) i e x h l = go (f i) refl e (λ q. find_none f k (suc i) q) (eqb i x) refl
  where
    go : (b : Bool) → f i ≡ b → ◌≡◌ {A = Option ℕ} (elim b [ true ↦ some i | false ↦ find f k (suc i) ]) none
        → (find f k (suc i) ≡ none → (y : ℕ) → suc i ≤ y → y < suc i + k → ¬ T (f y)) → (c : Bool) → eqb i x ≡ c → ¬ T (f x)
    go true p q ih c r = let z : ◌≡◌ {A = ℕ} 0 1 = cc in absurd (omega arith)
    go false p q ih true r = subst (λ (y : ℕ). ¬ T (f y)) (eqb-true i x r) (of_false p)
    go false p q ih false r = let n : ¬ (i ≡ x) = eqb-false i x r in ih q x (omega arith) (omega arith)

pub find_has : (f : ℕ → Bool) (k x : ℕ) → T (f x) → x < k → (y : ℕ) × (find f k 0 ≡ some y)
find_has f k x t l = go (find f k 0) refl
  where
    go : (o : Option ℕ) → find f k 0 ≡ o → (y : ℕ) × (find f k 0 ≡ some y)
    go (some y) e = (y, e)
    go none e = absurd (find_none f k 0 e x (omega arith) (omega arith) t)

-- two tests that agree find the same
pub find_cong : (f g : ℕ → Bool) (k i : ℕ) → ((x : ℕ) → i ≤ x → x < i + k → f x ≡ g x) → find f k i ≡ find g k i
unfolding find
find_cong f g zero i h = refl
find_cong f g (suc k) i h =
    (λ z. elim (h i (omega arith) (omega arith) z) [ true ↦ some i | false ↦ find_cong f g k (suc i) (λ x a b. h x (omega arith) (omega arith)) z ])

module _ (f : ℕ → Bool) where
  pub lowest_hit : (n i : ℕ) → i < n → f i ≡ true → lowest f n i ≡ i
  unfolding lowest
  lowest_hit n i h e =
      ap (λ k. found_or n (find f k i)) (let z : n - i ≡ suc (n - (i + 1)) = omega arith in z) ∙ ap (found_or n) (find_yes f _ i e)

  pub lowest_skip : (n i : ℕ) → i < n → f i ≡ false → lowest f n i ≡ lowest f n (i + 1)
  unfolding lowest
  lowest_skip n i h e =
      ap (λ k. found_or n (find f k i)) (let z : n - i ≡ suc (n - (i + 1)) = omega arith in z) ∙ ap (found_or n) (find_no f (n - (i + 1)) i e) ∙ rw (add-one i)

  pub lowest_end : (n i : ℕ) → n ≤ i → lowest f n i ≡ n
  unfolding lowest find
  lowest_end n i h = ap (λ k. found_or n (find f k i)) (let z : n - i ≡ 0 = omega arith in z)

  pub highest_zero : (t : ℕ) → highest f t 0 ≡ t
  unfolding highest
  highest_zero t = refl

  pub highest_step : (t n : ℕ) → highest f t (n + 1) ≡ cond (f n) n (highest f t n)
  unfolding highest
  highest_step t n = rw add-one

-- the lowest from i to n - 1 that passes, as a loop seeks it: found here, one number on, and the end
abbrev pub find_from : (ℕ → Bool) → ℕ → ℕ → Option ℕ
find_from f n i = find f (n - i) i

module _ (f : ℕ → Bool) (n : ℕ) where
  pub find_start : find f n 0 ≡ find_from f n 0
  find_start = ap (λ (k : ℕ). find f k 0) (let e : n ≡ n - 0 = omega arith in e)

  pub find_here : (i : ℕ) → i < n → f i ≡ true → find_from f n i ≡ some i
  find_here i l p =
      ap (λ (k : ℕ). find f k i) (let e : n - i ≡ suc (n - (i + 1)) = omega arith in e) ∙ find_yes f (n - (i + 1)) i p

  pub find_on : (i : ℕ) → i < n → f i ≡ false → find_from f n i ≡ find_from f n (i + 1)
  find_on i l p =
      ap (λ (k : ℕ). find f k i) (let e : n - i ≡ suc (n - (i + 1)) = omega arith in e)
      ∙ find_no f (n - (i + 1)) i p
      ∙ ap (λ (y : ℕ). find f (n - (i + 1)) y) (let e : suc i ≡ i + 1 = omega arith in e)

  pub find_end : (i : ℕ) → n ≤ i → find_from f n i ≡ none
  unfolding find
  find_end i l = ap (λ (k : ℕ). find f k i) (let e : n - i ≡ 0 = omega arith in e)
