-- All numbers below n: how many pass a test, whether one does, whether all do.
-- Assumes nothing.
use Rattle.std.specs.Prelude.{ℕ, zero, suc, ◌+◌, Bool, true, false, cond, ◌&&◌, ◌||◌, List, [], ◌∷◌, eqb}

-- how often the test holds below n
unfoldable pub count_below : (ℕ → Bool) → ℕ → ℕ
count_below f zero = 0
count_below f (suc n) = count_below f n + cond (f n) 1 0

-- how many entries of job j stand in a table before slot t
unfoldable pub entries_before : (ℕ → ℕ) → ℕ → ℕ → ℕ
entries_before table j t = count_below (λ i. eqb (table i) j) t

-- whether the test holds somewhere below n
unfoldable pub any_below : (ℕ → Bool) → ℕ → Bool
any_below f zero = false
any_below f (suc n) = f n || any_below f n

-- whether the test holds everywhere below n
unfoldable pub all_below : (ℕ → Bool) → ℕ → Bool
all_below f zero = true
all_below f (suc n) = all_below f n && f n

-- whether each of some tests is yes
unfoldable pub all_of : List Bool → Bool
all_of [] = true
all_of (b ∷ l) = b && all_of l
