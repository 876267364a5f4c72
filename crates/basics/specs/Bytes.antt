-- Numbers in bytes, little-endian: read where they stand, and written.
-- Assumes nothing.
use Rattle.std.specs.Prelude.{ℕ, ◌+◌, ◌*◌, ◌/◌, ◌%◌, List, [], ◌∷◌, get_or}

-- the 16 bits at i
unfoldable pub u16_at : List ℕ → ℕ → ℕ
u16_at s i = get_or s i 0 + 256 * get_or s (i + 1) 0

-- the 32 bits at i
unfoldable pub u32_at : List ℕ → ℕ → ℕ
u32_at s i = get_or s i 0 + 256 * get_or s (i + 1) 0 + 65536 * get_or s (i + 2) 0 + 16777216 * get_or s (i + 3) 0

-- 16 bits, the lowest byte first
abbrev pub le2 : ℕ → List ℕ
le2 x = x % 256 ∷ x / 256 % 256 ∷ []

-- 32 bits, the lowest byte first
abbrev pub le4 : ℕ → List ℕ
le4 x = x % 256 ∷ x / 256 % 256 ∷ x / 256 / 256 % 256 ∷ x / 256 / 256 / 256 % 256 ∷ []
