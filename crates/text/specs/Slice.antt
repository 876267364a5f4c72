-- Bytes of a slice, at any place.
-- Assumes nothing.
use Rattle.std.specs.Prelude.{ℕ, ◌-◌, Bool, cond, ◌&&◌, List, [], length, get_or, take, drop, leb, eqb}
use Rattle.basics.specs.Below.{all_below}

-- the bytes from a to e; none where that is no part of s
unfoldable pub between : List ℕ → ℕ → ℕ → List ℕ
between s a e = cond (leb a e && leb e (length s)) (take (e - a) (drop a s)) []

-- whether two slices have the same bytes
unfoldable pub same_bytes : List ℕ → List ℕ → Bool
same_bytes s t = eqb (length s) (length t) && all_below (λ i. eqb (get_or s i 0) (get_or t i 0)) (length s)
