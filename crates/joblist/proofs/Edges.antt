-- The test for an edge finds one exactly where there is one.
-- Assumes nothing.
use Prim.Native.Nat.{ℕ}
use mathlib.Core.Path.{◌≡◌}
use mathlib.Core.List.{List}
use mathlib.Core.Bool.{true}
use mathlib.Core.Logic.{◌↔◌}
use borrow.Author.Tests.{eqb-true, eq-eqb}
use lib.Dec.{eqb}
use Rattle.basics.proofs.Below.{any_hit, any_found}
use Rattle.basics.proofs.Tests.{and_left, and_right, and_both}
use Rattle.joblist.specs.Fields.{edge_from, edge_to, edge_in}
use Rattle.joblist.specs.Cycle.{Edge}

module _ (s : List ℕ) (n m p q : ℕ) where
  pub edge_of : edge_in s n m p q ≡ true → Edge s n m p q
  unfolding edge_in
  edge_of h =
      let f = any_found _ m h in
      record {
        e = f.at;
        within = f.below;
        begins = eqb-true _ _ (and_left _ (eqb (edge_to s n f.at) q) f.holds);
        ends = eqb-true _ _ (and_right (eqb (edge_from s n f.at) p) _ f.holds);
      }

  pub edge_there : Edge s n m p q → edge_in s n m p q ≡ true
  unfolding edge_in
  edge_there d =
      any_hit _ m d.e d.within (and_both _ _ (eq-eqb _ _ d.begins) (eq-eqb _ _ d.ends))

  pub edge_iff : (edge_in s n m p q ≡ true) ↔ Edge s n m p q
  edge_iff = (edge_of, edge_there)
