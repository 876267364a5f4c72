-- The number and the place of an answer, from those of its refusal.
-- Assumes nothing.
use Rattle.std.specs.Prelude.{ℕ, Result, Ok, Err}

-- 0 for yes
abbrev pub number_with : {T W : Type 0} → (W → ℕ) → Result T W → ℕ
number_with number (Ok x) = 0
number_with number (Err w) = number w

-- no place for yes
abbrev pub place_with : {T W P : Type 0} → P → (W → P) → Result T W → P
place_with nowhere place (Ok x) = nowhere
place_with nowhere place (Err w) = place w
