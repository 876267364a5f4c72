-- The marks of a state.
-- Assumes nothing.
use Rattle.std.specs.Prelude.{◌≡◌, ℕ, Bool, not, ◌==◌}
use Rattle.parts.specs.declared.lent.Marks.{Marks}

-- a mark is a byte: 0 is clear, anything else set
unfoldable pub is_set : ℕ → Bool
is_set b = not (b == 0)

-- the same arrays are lent, whatever stands in them
abbrev pub SameLoan : Marks → Marks → Type 0
SameLoan old new =
    (new.units.ghost_name ≡ old.units.ghost_name) × (new.done.ghost_name ≡ old.done.ghost_name) × (new.cut.ghost_name ≡ old.cut.ghost_name)
