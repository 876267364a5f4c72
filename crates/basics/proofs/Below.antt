-- Laws of counting, of `any_below` and of `all_below`.
-- Assumes nothing.
use Prim.Native.Nat.{ℕ, zero, suc, ◌+◌, ◌≤◌, ◌<◌}
use mathlib.Core.Path.{◌≡◌, refl, sym, ap, ap₂, ◌∙◌}
use mathlib.Core.Logic.{⊎_elim}
use mathlib.Core.Bool.{Bool, true, false, cond, ◌&&◌, ◌||◌, and-false}
use mathlib.Core.List.{List, [], ◌∷◌}
use native.Mathlib.Nat.{le_of_suc-le-suc, not-suc-le-zero, eq-or-lt_of_le, le_antisymm}
use native.Mathlib.Numerals.{add-one}
use native.Mathlib.Omega.{arith}
use native.Mathlib.Decide.{ℕ_discrete}
use borrow.Author.Tests.{eq-eqb, ne_eqb}
use lib.ListN.{get_or}
use Rattle.basics.specs.Below.{count_below, entries_before, any_below, all_below, all_of}
use Rattle.basics.proofs.Tests.{and_left, and_right, or_right}

module _ (f : ℕ → Bool) where
  pub count_zero : count_below f 0 ≡ 0
  unfolding count_below
  count_zero = refl

  pub count_yes : (n : ℕ) → f n ≡ true → count_below f (n + 1) ≡ count_below f n + 1
  unfolding count_below
  count_yes n e = rw (add-one n, count_below, e)

  pub count_no : (n : ℕ) → f n ≡ false → count_below f (n + 1) ≡ count_below f n
  unfolding count_below
  count_no n e = rw (add-one n, count_below, e) (omega arith)

  pub count_at_most : (n : ℕ) → count_below f n ≤ n
  unfolding count_below
  count_at_most zero = omega arith
  count_at_most (suc n) = omega (arith, count_at_most n, bit (f n))
    where
      bit : (b : Bool) → cond b 1 0 ≤ 1
      bit true = omega arith
      bit false = omega arith

-- the entries of a job before a slot: one slot more
module _ (table : ℕ → ℕ) (j : ℕ) where
  pub entries_zero : entries_before table j 0 ≡ 0
  unfolding entries_before count_below
  entries_zero = refl

  pub entries_here : (t : ℕ) → table t ≡ j → entries_before table j (suc t) ≡ suc (entries_before table j t)
  unfolding entries_before count_below
  entries_here t p = rw (eq-eqb (table t) j p, entries_before, count_below) (omega arith)

  pub entries_else : (t : ℕ) → ¬ (table t ≡ j) → entries_before table j (suc t) ≡ entries_before table j t
  unfolding entries_before count_below
  entries_else t p = rw (ne_eqb (table t) j p, entries_before, count_below) (omega arith)

  pub entries_rise : (a b : ℕ) → a ≤ b → entries_before table j a ≤ entries_before table j b
  unfolding entries_before count_below
  entries_rise a zero l = rw (let z : a ≡ 0 = omega arith in z) (omega arith)
  entries_rise a (suc b) l = go (ℕ_discrete a (suc b)) (λ h. entries_rise a b h)
    where
      go : Dec (a ≡ suc b) → (a ≤ b → entries_before table j a ≤ entries_before table j b) → entries_before table j a ≤ entries_before table j (suc b)
      go (yes p) r = rw p (omega arith)
      go (no p) r = omega (arith, r (omega arith))

-- two tables that name the same job in slot t count it alike
pub entries_alike : (f g : ℕ → ℕ) (j t : ℕ) → f t ≡ g t → entries_before f j (suc t) + entries_before g j t ≡ entries_before g j (suc t) + entries_before f j t
unfolding entries_before count_below
entries_alike f g j t p = rw p (omega arith)

pub any_zero : (f : ℕ → Bool) → any_below f 0 ≡ false
unfolding any_below
any_zero f = refl

pub any_step : (f : ℕ → Bool) (n : ℕ) → any_below f (n + 1) ≡ (f n || any_below f n)
unfolding any_below
any_step f n = rw (add-one n)

pub any_same : (f g : ℕ → Bool) (n : ℕ) → ((i : ℕ) → i < n → f i ≡ g i) → any_below f n ≡ any_below g n
unfolding any_below
any_same f g zero h = refl
any_same f g (suc n) h = ap₂ ◌||◌ (h n (omega arith)) (any_same f g n (λ i l. h i (omega arith)))

-- one that passes is enough
pub any_hit : (f : ℕ → Bool) (n i : ℕ) → i < n → f i ≡ true → any_below f n ≡ true
unfolding any_below
any_hit f zero i h t = absurd (omega arith)
any_hit f (suc n) i h t = go (ℕ_discrete i n) (λ l. any_hit f n i l t)
  where
    go : Dec (i ≡ n) → (i < n → any_below f n ≡ true) → (f n || any_below f n) ≡ true
    go (yes p) r = rw (sym (ap f p) ∙ t)
    go (no p) r = or_right (f n) _ (r (omega arith))

-- and a yes has one that passes
pub record Found (f : ℕ → Bool) (n : ℕ) : Type 0 where
  pub at : ℕ
  pub below : at < n
  pub holds : f at ≡ true

pub any_found : (f : ℕ → Bool) (n : ℕ) → any_below f n ≡ true → Found f n
unfolding any_below
any_found f zero h = let z : ◌≡◌ {A = ℕ} 0 1 = cc in absurd (omega arith)
any_found f (suc n) h = go (f n) refl (λ k. any_found f n k) h
  where
    go : (b : Bool) → f n ≡ b → (any_below f n ≡ true → Found f n) → (b || any_below f n) ≡ true → Found f (suc n)
    go true e r t = record { at = n; below = omega arith; holds = e }
    go false e r t = let g = r t in record { at = g.at; below = omega arith; holds = g.holds }

module _ (f : ℕ → Bool) where
  pub all_none : all_below f 0 ≡ true
  unfolding all_below
  all_none = refl

  pub all_more : (i : ℕ) → all_below f i ≡ true → f i ≡ true → all_below f (i + 1) ≡ true
  unfolding all_below
  all_more i h q = rw (add-one, h) q

  pub all_fails : (n i : ℕ) → i < n → f i ≡ false → all_below f n ≡ false
  unfolding all_below
  all_fails zero i l q = absurd (not-suc-le-zero l)
  all_fails (suc n) i l q =
      ⊎_elim (λ e. ap (λ b. all_below f n && b) (ap f (sym e) ∙ q) ∙ and-false (all_below f n))
      (λ lt. ap (λ b. b && f n) (all_fails n i lt q)) (eq-or-lt_of_le (le_of_suc-le-suc l))

  pub all_at : (n i : ℕ) → all_below f n ≡ true → i < n → f i ≡ true
  unfolding all_below
  all_at zero i h l = absurd (not-suc-le-zero l)
  all_at (suc n) i h l =
      ⊎_elim (λ e. ap f e ∙ and_right (all_below f n) (f n) h)
      (λ lt. all_at n i (and_left (all_below f n) (f n) h) lt) (eq-or-lt_of_le (le_of_suc-le-suc l))

  -- the two ends of a loop that tests one number after the other
  pub all_done : (n i : ℕ) → i ≤ n → n ≤ i → all_below f i ≡ true → true ≡ all_below f n
  all_done n i a b h = sym h ∙ ap (all_below f) (le_antisymm a b)

  pub all_stops : (n i : ℕ) → i < n → f i ≡ false → false ≡ all_below f n
  all_stops n i l q = sym (all_fails n i l q)

-- a list of tests: each is yes
abbrev pub Every : List Bool → Type 0
Every [] = Unit {0}
Every (b ∷ l) = (b ≡ true) × Every l

pub every : (l : List Bool) → all_of l ≡ true → Every l
unfolding all_of
every [] h = tt
every (b ∷ l) h = (and_left b (all_of l) h, every l (and_right b (all_of l) h))

-- one no is enough
pub one_fails : (l : List Bool) (k : ℕ) → get_or l k true ≡ false → false ≡ all_of l
unfolding all_of
one_fails [] k h = sym h
one_fails (b ∷ l) zero h = ap (λ x. x && all_of l) (sym h)
one_fails (b ∷ l) (suc k) h = sym (and-false b) ∙ ap (λ x. b && x) (one_fails l k h)

-- a test that holds at each number below n
pub all_each : (f : ℕ → Bool) (n : ℕ) → ((i : ℕ) → i < n → f i ≡ true) → all_below f n ≡ true
unfolding all_below
all_each f zero h = refl
all_each f (suc n) h = rw (all_each f n (λ i l. h i (omega arith))) (h n (omega arith))
