-- Laws of `pick`, and that the choice by earliest deadline is what its name says.
-- Assumes nothing.
use Prim.Native.Nat.{ℕ, zero, suc, ◌+◌, ◌≤◌, ◌<◌}
use mathlib.Core.Path.{◌≡◌, refl, sym, ap, ap₂, ◌∙◌}
use mathlib.Core.Logic.{◌⊎◌, inl, inr}
use mathlib.Core.Bool.{Bool, true, false, cond, ◌&&◌, ◌||◌}
use native.Mathlib.Numerals.{add-one}
use native.Mathlib.Omega.{arith}
use native.Mathlib.Decide.{ℕ_discrete, dec_lt}
use borrow.Author.Tests.{eq-eqb, ne_eqb, lt-ltb, le-ltb}
use lib.Dec.{eqb, ltb}
use Rattle.basics.specs.Choice.{pick, preferred, earliest, Best}
use Rattle.basics.proofs.Tests.{not_both}

pub pick_true : {A : Type 0} (b : Bool) (x y : A) → b ≡ true → pick b x y ≡ x
unfolding pick
pick_true b x y e = rw (e, pick)

pub pick_false : {A : Type 0} (b : Bool) (x y : A) → b ≡ false → pick b x y ≡ y
unfolding pick
pick_false b x y e = rw (e, pick)

-- what both cases have
pub pick_both : {A : Type 0} (P : A → Type 0) (b : Bool) (x y : A) → P x → P y → P (pick b x y)
unfolding pick
pick_both P true x y p q = p
pick_both P false x y p q = q

pub earliest_zero : (ready : ℕ → Bool) (d : ℕ → ℕ) → earliest ready d 0 ≡ 255
unfolding earliest
earliest_zero ready d = refl

pub earliest_step : (ready : ℕ → Bool) (d : ℕ → ℕ) (n : ℕ) → earliest ready d (n + 1) ≡ preferred ready d (earliest ready d n) n
unfolding earliest
earliest_step ready d n = rw add-one

-- nothing is ready and the choice is 255, or the choice is the best
abbrev pub Choice : (ℕ → Bool) → (ℕ → ℕ) → ℕ → ℕ → Type 0
Choice ready d n r = ((r ≡ 255) × ((j : ℕ) → j < n → ready j ≡ true → ⊥)) ⊎ Best ready d n r

below_suc : (j n : ℕ) → j < suc n → (j < n) ⊎ (j ≡ n)
below_suc j n h = go (ℕ_discrete j n)
  where
    go : Dec (j ≡ n) → (j < n) ⊎ (j ≡ n)
    go (yes p) = inr p
    go (no p) = inl (omega arith)

module _ (ready : ℕ → Bool) (d : ℕ → ℕ) where
  keep : (n r : ℕ) → Best ready d n r → (ready n ≡ true → d r ≤ d n) → Best ready d (suc n) r
  keep n r b later = record { below = omega arith; is_ready = b.is_ready; first = firsts }
    where
      at : Dec (d r ≡ d n) → ready n ≡ true → (d r < d n) ⊎ ((d r ≡ d n) × (r ≤ n))
      at (yes p) h = inr (p, omega arith)
      at (no p) h = let l = later h in inl (omega arith)

      firsts : (j : ℕ) → j < suc n → ready j ≡ true → (d r < d j) ⊎ ((d r ≡ d j) × (r ≤ j))
      firsts j h t =
          elim (below_suc j n h) [ inl l ↦ b.first j l t | inr p ↦ rw p (at (ℕ_discrete (d r) (d n)) (rw p at t)) ]

  take : (n : ℕ) → ready n ≡ true → ((j : ℕ) → j < n → ready j ≡ true → d n < d j) → Best ready d (suc n) n
  take n e sooner = record { below = omega arith; is_ready = e; first = firsts }
    where
      firsts : (j : ℕ) → j < suc n → ready j ≡ true → (d n < d j) ⊎ ((d n ≡ d j) × (n ≤ j))
      firsts j h t = elim (below_suc j n h) [ inl l ↦ inl (sooner j l t) | inr p ↦ inr (ap d (sym p), omega arith) ]

  more : (n r : ℕ) → n < 255 → Choice ready d n r → (b : Bool) → ready n ≡ b → Choice ready d (suc n) (preferred ready d r n)
  more n r l (inl c) false e =
      rw e (inl (c.0, λ j h t. elim (below_suc j n h) [ inl k ↦ c.1 j k t | inr p ↦ not_both t (ap ready p ∙ e) ]))
  more n r l (inr c) false e = rw e (inr (keep n r c (λ t. absurd (not_both t e))))
  more n r l (inl c) true e = rw (e, eq-eqb _ _ c.0) (inr (take n e (λ j h t. absurd (c.1 j h t))))
  more n r l (inr c) true e = rw (e, ne_eqb r 255 (λ p. let b = c.below in omega arith)) (go (dec_lt (d n) (d r)))
    where
      go : Dec (d n < d r) → Choice ready d (suc n) (cond (ltb (d n) (d r)) n r)
      go (yes p) = rw (lt-ltb _ _ p) (inr (take n e (λ j h t. elim (c.first j h t) [ inl k ↦ omega arith | inr k ↦ omega arith ])))
      go (no p) = rw (le-ltb (d n) (d r) (omega arith)) (inr (keep n r c (λ t. omega arith)))

  pub earliest_is : (n : ℕ) → n ≤ 255 → Choice ready d n (earliest ready d n)
  unfolding earliest
  earliest_is zero l = inl (refl, λ j h. absurd (omega arith))
  earliest_is (suc n) l = more n (earliest ready d n) (omega arith) (earliest_is n (omega arith)) (ready n) refl

  pub earliest_below : (n : ℕ) → n ≤ 255 → (earliest ready d n ≡ 255 → ⊥) → earliest ready d n < n
  earliest_below n l h = elim (earliest_is n l) [ inl c ↦ absurd (h c.0) | inr c ↦ c.below ]

  pub earliest_ready : (n : ℕ) → n ≤ 255 → (earliest ready d n ≡ 255 → ⊥) → ready (earliest ready d n) ≡ true
  earliest_ready n l h = elim (earliest_is n l) [ inl c ↦ absurd (h c.0) | inr c ↦ c.is_ready ]

-- the choice between two values of a function
pub pick_map : {A B : Type 0} (f : A → B) (b : Bool) {p q : B} (x y : A) → p ≡ f x → q ≡ f y → pick b p q ≡ f (pick b x y)
unfolding pick
pick_map f true x y h k = h
pick_map f false x y h k = k

-- two readiness tests that agree on the jobs choose the same
pub earliest_same : (f g : ℕ → Bool) (d : ℕ → ℕ) (n : ℕ) → ((j : ℕ) → j < n → f j ≡ g j) → earliest f d n ≡ earliest g d n
unfolding earliest
earliest_same f g d zero h = refl
earliest_same f g d (suc n) h =
    ap₂ (λ b best. cond (b && (eqb best 255 || ltb (d n) (d best))) n best) (h n (omega arith)) (earliest_same f g d n (λ j l. h j (omega arith)))

-- one more job: a ready job is weighed against the choice so far, another is passed over
module _ (ready : ℕ → Bool) (d : ℕ → ℕ) (n best : ℕ) (so_far : best ≡ earliest ready d n) where
  pub weighed : ready n ≡ true → preferred (λ _. true) d best n ≡ earliest ready d (n + 1)
  weighed e = sym (rw (earliest_step ready d n, ← so_far, e))

  pub passed : ready n ≡ false → best ≡ earliest ready d (n + 1)
  passed e = sym (rw (earliest_step ready d n, ← so_far, e))
