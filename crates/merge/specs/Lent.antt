-- The tables that a build is lent.
-- Assumes nothing.
use Rattle.std.specs.Prelude.{ℕ, List, ◌≡◌}
use Rattle.late.specs.Table.{all_idle}
use Rattle.merge.specs.declared.Tables.{Tables}

-- each has L slots, all idle
pub record AreIdle (s : List ℕ) (t : Tables) : Type 0 where
  pub low : t.low.now ≡ all_idle s
  pub high : t.high.now ≡ all_idle s
  pub left : t.left.now ≡ all_idle s
  pub lo : t.lo.now ≡ all_idle s
  pub hi : t.hi.now ≡ all_idle s
