-- What each test says of its numbers, both ways.
-- Assumes nothing.
use Prim.Native.Nat.{ℕ, ◌≤◌, ◌<◌}
use mathlib.Core.Path.{◌≡◌, refl}
use mathlib.Core.Bool.{Bool, true, false, not, ◌&&◌, ◌||◌}
use native.Mathlib.Decide.{ℕ_discrete}
use borrow.Author.Tests.{ltb-true, leb-true, eqb-true, eqb-false, not-true, lt-ltb, le-leb, eq-eqb, ne_eqb}
use lib.Dec.{leb, ltb, eqb}
use Rattle.basics.specs.Limits.{Limits}
use Rattle.basics.proofs.Tests.{and_left, and_right}
use Rattle.joblist.specs.Answer.{within, good_times, good_budgets, good_pair}

-- a test that cannot be yes is no
pub not_so : (b : Bool) → (b ≡ true → ⊥) → false ≡ b
not_so true h = absurd (h refl)
not_so false h = refl

module _ (most x : ℕ) where
  pub within_so : within most x ≡ true → (1 ≤ x) × (x ≤ most)
  unfolding within
  within_so h = (leb-true _ _ (and_left _ _ h), leb-true _ _ (and_right (leb 1 x) _ h))

  pub within_yes : 1 ≤ x → x ≤ most → true ≡ within most x
  unfolding within
  within_yes a b = rw (le-leb 1 x a, le-leb x most b)

module _ (lim : Limits) (a d : ℕ) where
  pub times_so : good_times lim a d ≡ true → (a < d) × (d ≤ lim.slots)
  unfolding good_times
  times_so h = (ltb-true _ _ (and_left _ _ h), leb-true _ _ (and_right (ltb a d) _ h))

  pub times_yes : a < d → d ≤ lim.slots → true ≡ good_times lim a d
  unfolding good_times
  times_yes x y = rw (lt-ltb a d x, le-leb d lim.slots y)

module _ (lim : Limits) (v lo hi : ℕ) where
  equal : (eqb v 1 || eqb lo hi) ≡ true → ¬ (v ≡ 1) → lo ≡ hi
  equal h n = eqb-true _ _ (rw (ne_eqb v 1 n) at h)

  pub budgets_so : good_budgets lim v lo hi ≡ true → (1 ≤ lo) × (lo ≤ hi) × (hi ≤ lim.budget) × (¬ (v ≡ 1) → lo ≡ hi)
  unfolding good_budgets
  budgets_so h =
      let k = and_left _ (eqb v 1 || eqb lo hi) h in
      let l = and_left _ (leb hi lim.budget) k in
      (leb-true _ _ (and_left _ _ l), leb-true _ _ (and_right (leb 1 lo) _ l), leb-true _ _ (and_right (leb 1 lo && leb lo hi) _ k), equal (and_right (leb 1 lo && leb lo hi && leb hi lim.budget) _ h))

  pub budgets_yes : 1 ≤ lo → lo ≤ hi → hi ≤ lim.budget → (¬ (v ≡ 1) → lo ≡ hi) → true ≡ good_budgets lim v lo hi
  unfolding good_budgets
  budgets_yes x y z w = rw (le-leb 1 lo x, le-leb lo hi y, le-leb hi lim.budget z) (go (ℕ_discrete v 1))
    where
      go : Dec (v ≡ 1) → true ≡ (eqb v 1 || eqb lo hi)
      go (yes p) = rw (eq-eqb v 1 p)
      go (no p) = rw (ne_eqb v 1 p, eq-eqb lo hi (w p))

module _ (n p q : ℕ) (o : Bool) where
  pub pair_so : good_pair n p q o ≡ true → (p < n) × (q < n) × ¬ (p ≡ q) × (o ≡ true)
  unfolding good_pair
  pair_so h =
      let k = and_left _ o h in
      let l = and_left _ (not (eqb p q)) k in
      (ltb-true _ _ (and_left _ _ l), ltb-true _ _ (and_right (ltb p n) _ l), eqb-false _ _ (not-true _ (and_right (ltb p n && ltb q n) _ k)), and_right (ltb p n && ltb q n && not (eqb p q)) _ h)

  pub pair_rest : p < n → q < n → ¬ (p ≡ q) → o ≡ good_pair n p q o
  unfolding good_pair
  pair_rest x y z = rw (lt-ltb p n x, lt-ltb q n y, ne_eqb p q z)
