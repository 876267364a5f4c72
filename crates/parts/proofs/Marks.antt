-- What a mark's byte says.
-- Assumes nothing.
use Rattle.std.proofs.Common.{◌≡◌, ℕ, true, false, eq-eqb, ne_eqb}
use Rattle.parts.specs.Marks.{is_set}

pub mark_clear : (b : ℕ) → b ≡ 0 → is_set b ≡ false
unfolding is_set
mark_clear b h = simp (eq-eqb _ _ h)

pub mark_set : (b : ℕ) → (b ≡ 0 → ⊥) → is_set b ≡ true
unfolding is_set
mark_set b h = simp (ne_eqb _ _ h)
