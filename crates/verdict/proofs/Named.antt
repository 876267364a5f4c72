-- Whether a slot has a switch, by the count of its job's entries.
-- Assumes nothing.
use mathlib.Core.List.{List}
use mathlib.Core.Path.{◌∙◌, ◌≡◌, ap₂, sym}
use Prim.Native.Nat.{◌+◌, ◌<◌, ℕ}
use borrow.Author.Tests.{eq-eqb, lt-ltb}
use lib.Dec.{eqb}
use Rattle.joblist.specs.Fields.{high, level, ordinary}
use Rattle.verdict.specs.Count.{entries_in}
use Rattle.verdict.specs.Inner.{switches_at}

module _ (s : List ℕ) (n : ℕ) (lo : List ℕ) (t j : ℕ) where
  pub switch_count : j < n → level s j ≡ 1 → ordinary s j < high s j → (k o : ℕ) → k ≡ entries_in lo j t → o ≡ ordinary s j → eqb (k + 1) o ≡ switches_at s n lo t j
  switch_count a b c k o p q =
      ap₂ (λ (x y : ℕ). eqb (x + 1) y) p q ∙ sym (rw (lt-ltb j n a, eq-eqb (level s j) 1 b, lt-ltb (ordinary s j) (high s j) c))
