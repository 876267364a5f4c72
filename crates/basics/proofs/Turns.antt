-- Laws of `turns`: one turn, the end, rows that agree, and a row with no refusal.
-- Assumes nothing.
use Prim.Native.Nat.{ℕ, zero, suc, ◌+◌, ◌-◌, ◌<◌, ◌≤◌}
use mathlib.Core.Path.{◌≡◌, refl, ap, ap₂}
use native.Mathlib.Decide.{ℕ_discrete}
use native.Mathlib.Omega.{arith}
use Rattle.basics.specs.Turns.{in_turn, turns}

module _ {A : Type 0} (join : A → A → A) (end : A) (f : ℕ → A) where
  pub turns_step : (n i : ℕ) → i < n → turns join end f n i ≡ join (f i) (turns join end f n (i + 1))
  unfolding turns in_turn
  turns_step n i h = ap (λ k. in_turn join end f k i) (let e : n - i ≡ suc (n - (i + 1)) = omega arith in e)

  pub turns_end : (n i : ℕ) → n ≤ i → turns join end f n i ≡ end
  unfolding turns in_turn
  turns_end n i h = ap (λ k. in_turn join end f k i) (let e : n - i ≡ 0 = omega arith in e)

-- two rows of answers that agree have the same first refusal
module _ {A : Type 0} (join : A → A → A) (end : A) (f g : ℕ → A) where
  in_turn_same : (k i : ℕ) → ((x : ℕ) → i ≤ x → x < i + k → f x ≡ g x) → in_turn join end f k i ≡ in_turn join end g k i
  unfolding in_turn
  in_turn_same zero i h = refl
  in_turn_same (suc k) i h =
      ap₂ join (h i (omega arith) (omega arith)) (in_turn_same k (i + 1) (λ x a b. h x (omega arith) (omega arith)))

  pub turns_same : (n : ℕ) → ((x : ℕ) → x < n → f x ≡ g x) → turns join end f n 0 ≡ turns join end g n 0
  unfolding turns
  turns_same n h = in_turn_same (n - 0) 0 (λ x a b. h x (omega arith))

-- a row of answers is the end where each of them is
module _ {A : Type 0} (join : A → A → A) (end : A) (split : (x y : A) → join x y ≡ end → (x ≡ end) × (y ≡ end)) (f : ℕ → A) where
  in_turn_each : (k i x : ℕ) → in_turn join end f k i ≡ end → i ≤ x → x < i + k → f x ≡ end
  unfolding in_turn
  in_turn_each zero i x e h l = absurd (omega arith)
  in_turn_each (suc k) i x e h l =
      go (ℕ_discrete x i) (λ p. in_turn_each k (i + 1) x (split (f i) (in_turn join end f k (i + 1)) e).1 (omega arith) (omega arith))
    where
      go : Dec (x ≡ i) → (¬ (x ≡ i) → f x ≡ end) → f x ≡ end
      go (yes p) r = rw p (split (f i) (in_turn join end f k (i + 1)) e).0
      go (no p) r = r p

  pub turns_each : (n x : ℕ) → turns join end f n 0 ≡ end → x < n → f x ≡ end
  unfolding turns
  turns_each n x e h = in_turn_each (n - 0) 0 x e (omega arith) (omega arith)
