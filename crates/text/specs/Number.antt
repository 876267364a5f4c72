-- A number in decimal digits.
-- Assumes nothing.
use Rattle.std.specs.Prelude.{ℕ, ◌+◌, ◌*◌, ◌-◌, cond, ◌&&◌, List, [], ◌∷◌, leb, Option, Some, None}

-- one digit more, the byte x; none where x is no digit or the number would be over `most`
unfoldable pub step : ℕ → Option ℕ → ℕ → Option ℕ
step most None x = None
step most (Some n) x = cond (leb 48 x && leb x 57 && leb (10 * n + (x - 48)) most) (Some (10 * n + (x - 48))) None

-- each of the digits s, in turn
unfoldable pub goes_on : ℕ → Option ℕ → List ℕ → Option ℕ
goes_on most r [] = r
goes_on most r (x ∷ s) = goes_on most (step most r x) s

-- one digit or more
unfoldable pub number_in : ℕ → List ℕ → Option ℕ
number_in most [] = None
number_in most (x ∷ s) = goes_on most (Some 0) (x ∷ s)
