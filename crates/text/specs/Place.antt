-- Text put at a place of a buffer, where it fits.
-- Assumes nothing.
use Rattle.std.specs.Prelude.{ℕ, ◌+◌, ◌≡◌, List, cond, length, leb}
use Rattle.basics.specs.Put.{put}
use Rattle.io.specs.Digits.{last_digits, IsDigitCount}

-- the buffer with v at the place; as it was, where there is no room
unfoldable pub put_in : List ℕ → ℕ → List ℕ → List ℕ
put_in d at v = cond (leb (at + length v) (length d)) (put d at v) d

-- the place after v; the same place, where there is no room
unfoldable pub next_at : List ℕ → ℕ → List ℕ → ℕ
next_at d at v = cond (leb (at + length v) (length d)) (at + length v) at

-- the decimal digits of n, as few as it takes, put at the place: r is the next place, and d' the buffer
pub record NumberPut (d : List ℕ) (at n r : ℕ) (d' : List ℕ) : Type 0 where
  pub places : ℕ
  pub fewest : IsDigitCount 10 1 n places
  pub next : r ≡ next_at d at (last_digits 10 places n)
  pub after : d' ≡ put_in d at (last_digits 10 places n)
