-- First refusal wins: a fold from the right over rising numbers.
-- Assumes nothing.
use Rattle.std.specs.Prelude.{ℕ, zero, suc, ◌+◌, ◌-◌}

-- f i, f (i + 1), .. k of them, joined from the right; then `end`
unfoldable pub in_turn : {A : Type 0} → (A → A → A) → A → (ℕ → A) → ℕ → ℕ → A
in_turn join end f zero i = end
in_turn join end f (suc k) i = join (f i) (in_turn join end f k (i + 1))

-- f i, f (i + 1), .. up to f (n - 1), joined from the right; then `end`
unfoldable pub turns : {A : Type 0} → (A → A → A) → A → (ℕ → A) → ℕ → ℕ → A
turns join end f n i = in_turn join end f (n - i) i
