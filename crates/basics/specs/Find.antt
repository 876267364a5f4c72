-- The lowest and the highest number that pass a test.
-- Assumes nothing.
use Rattle.std.specs.Prelude.{ℕ, zero, suc, ◌-◌, Bool, true, false, cond}
use Rattle.std.proofs.Math.Option.{Option, some, none}

-- the lowest of k numbers from i on that passes
unfoldable pub find : (ℕ → Bool) → ℕ → ℕ → Option ℕ
find f zero i = none
find f (suc k) i = elim (f i) [ true ↦ some i | false ↦ find f k (suc i) ]

-- whether nothing was found
abbrev pub is_none : Option ℕ → Bool
is_none none = true
is_none (some x) = false

-- what was found, or n
abbrev pub found_or : ℕ → Option ℕ → ℕ
found_or n none = n
found_or n (some x) = x

-- the lowest number from i on, below n, that passes; n where none does
unfoldable pub lowest : (ℕ → Bool) → ℕ → ℕ → ℕ
lowest f n i = found_or n (find f (n - i) i)

-- the highest number below n that passes; t where none does
unfoldable pub highest : (ℕ → Bool) → ℕ → ℕ → ℕ
highest f t zero = t
highest f t (suc n) = cond (f n) n (highest f t n)
