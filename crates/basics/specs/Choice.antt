-- Choice: the one or the other by a test, and the earliest deadline among several.
-- Assumes nothing.
use Rattle.std.specs.Prelude.{ℕ, zero, suc, ◌≤◌, ◌<◌, ◌≡◌, ◌⊎◌, Bool, true, false, cond, ◌&&◌, ◌||◌, eqb, ltb}
use Rattle.basics.specs.Marks.{idle}

-- the one or the other, by a test; it stays shut, so that a law sees the whole choice
unfoldable pub pick : {A : Type 0} → Bool → A → A → A
pick true a b = a
pick false a b = b

-- of the choice so far and job j: j where it is ready, and nothing is chosen yet or its deadline is earlier
abbrev pub preferred : (ℕ → Bool) → (ℕ → ℕ) → ℕ → ℕ → ℕ
preferred ready d best j = cond (ready j && (eqb best idle || ltb (d j) (d best))) j best

-- the ready job of the earliest deadline among 0 to n - 1, the lowest of them; idle where none is ready
unfoldable pub earliest : (ℕ → Bool) → (ℕ → ℕ) → ℕ → ℕ
earliest ready d zero = idle
earliest ready d (suc n) = preferred ready d (earliest ready d n) n

-- what that says: r is ready, and every ready job has a later deadline, or the same and no lower number
pub record Best (ready : ℕ → Bool) (d : ℕ → ℕ) (n r : ℕ) : Type 0 where
  pub below : r < n
  pub is_ready : ready r ≡ true
  pub first : (j : ℕ) → j < n → ready j ≡ true → (d r < d j) ⊎ ((d r ≡ d j) × (r ≤ j))
