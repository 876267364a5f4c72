-- Bytes as hex text, two digits a byte, in lower case.
-- Assumes nothing.
use Rattle.std.specs.Prelude.{ℕ, zero, suc, ◌+◌, ◌*◌, ◌-◌, ◌/◌, ◌%◌, Bool, cond, ◌&&◌, List, [], ◌∷◌, ◌++◌, length, get_or, leb, ltb, eqb, Option, Some, None}
use Rattle.basics.specs.Below.{all_below}
use Rattle.basics.specs.Put.{put}
use Rattle.io.specs.Digits.{hex_digit_ascii}

-- the digits of the first k bytes
unfoldable pub hex_of : List ℕ → ℕ → List ℕ
hex_of s zero = []
hex_of s (suc k) = (hex_of s k ++ (hex_digit_ascii (get_or s k 0 / 16) ∷ [])) ++ (hex_digit_ascii (get_or s k 0 % 16) ∷ [])

-- what the digits 0 to 9 and a to f are worth; 16 for a byte that is no digit
unfoldable pub worth : ℕ → ℕ
worth x = cond (leb 48 x && leb x 57) (x - 48) (cond (leb 97 x && leb x 102) (x - 87) 16)

-- whether bytes are pairs of digits
unfoldable pub is_hex : List ℕ → Bool
is_hex s = eqb (length s % 2) 0 && all_below (λ i. ltb (worth (get_or s i 0)) 16) (length s)

-- the bytes that the first k pairs say
unfoldable pub bytes_of : List ℕ → ℕ → List ℕ
bytes_of s zero = []
bytes_of s (suc k) = bytes_of s k ++ ((16 * worth (get_or s (2 * k) 0) + worth (get_or s (2 * k + 1) 0)) ∷ [])

-- whether s is hex text whose bytes fit at the place
unfoldable pub unhexes : List ℕ → ℕ → List ℕ → Bool
unhexes d at s = leb (at + length s / 2) (length d) && is_hex s

-- the place after the bytes; or nothing
unfoldable pub unhexed : List ℕ → ℕ → List ℕ → Option ℕ
unhexed d at s = cond (unhexes d at s) (Some (at + length s / 2)) None

-- the buffer with the bytes at the place; or as it was
unfoldable pub after_unhex : List ℕ → ℕ → List ℕ → List ℕ
after_unhex d at s = cond (unhexes d at s) (put d at (bytes_of s (length s / 2))) d
