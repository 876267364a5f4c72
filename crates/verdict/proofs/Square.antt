-- The square of the edges: one edge more.
-- Assumes nothing.
use mathlib.Core.Bool.{Bool, ◌&&◌, ◌||◌, false, true}
use mathlib.Core.List.{List}
use mathlib.Core.Path.{◌∙◌, ◌≡◌, ap, refl, sym}
use Prim.Native.Nat.{◌+◌, ◌<◌, ◌≤◌, ℕ}
use native.Mathlib.Omega.{arith}
use borrow.Author.Tests.{eq-eqb, eqb-false, eqb-true}
use lib.Dec.{eqb}
use lib.ListN.{get_or, length, set}
use lib.Seq.{get_or-set_other, get_or-set_same}
use Rattle.basics.proofs.Below.{any_step, any_zero}
use Rattle.basics.specs.Below.{any_below}
use Rattle.basics.specs.Limits.{first_edition}
use Rattle.joblist.specs.Fields.{edge_from, edge_in, edge_to}
use Rattle.verdict.specs.Inner.{edge_at, pair_at, pairs}

pub edge_zero : (s : List ℕ) (n p q : ℕ) → edge_in s n 0 p q ≡ false
unfolding edge_in
edge_zero s n p q = any_zero (λ e. eqb (edge_from s n e) p && eqb (edge_to s n e) q)

module _ (s : List ℕ) (n e p q : ℕ) where
  edge_yes : edge_from s n e ≡ p → edge_to s n e ≡ q → edge_in s n (e + 1) p q ≡ true
  unfolding edge_in
  edge_yes a b = any_step _ e ∙ rw (eq-eqb _ _ a, eq-eqb _ _ b)

  edge_no : (edge_from s n e ≡ p → edge_to s n e ≡ q → ⊥) → edge_in s n (e + 1) p q ≡ edge_in s n e p q
  unfolding edge_in
  edge_no h = any_step _ e ∙ go (eqb (edge_from s n e) p) (eqb (edge_to s n e) q) refl refl
    where
      rest : Bool
      rest = any_below (λ e. eqb (edge_from s n e) p && eqb (edge_to s n e) q) e

      go : (a b : Bool) → eqb (edge_from s n e) p ≡ a → eqb (edge_to s n e) q ≡ b → ((a && b) || rest) ≡ rest
      go true true x y = absurd (h (eqb-true _ _ x) (eqb-true _ _ y))
      go true false x y = refl
      go false b x y = refl

-- a pair of jobs has a place of its own
place_own : (n p q p' q' : ℕ) → n ≤ first_edition.jobs → p < n → p' < n → pair_at p q ≡ pair_at p' q' → (p ≡ p') × (q ≡ q')
place_own n p q p' q' small a b e = let x : q ≡ q' = omega arith in (omega arith, x)

pub edge_more : (s : List ℕ) (n e p' q' : ℕ) (b : List Bool) → p' ≡ edge_from s n e → q' ≡ edge_to s n e → p' < n → q' < n → n ≤ first_edition.jobs → length b ≡ pairs
    → (p q : ℕ) → p < n → q < n → edge_at b p q ≡ edge_in s n e p q → edge_at (set b (pair_at p' q') true) p q ≡ edge_in s n (e + 1) p q
edge_more s n e p' q' b f g pl ql small len p q h k r = go (eqb (pair_at p q) (pair_at p' q')) refl
  where
    go : (z : Bool) → eqb (pair_at p q) (pair_at p' q') ≡ z → edge_at (set b (pair_at p' q') true) p q ≡ edge_in s n (e + 1) p q
    go true x =
        let y : pair_at p q ≡ pair_at p' q' = eqb-true _ _ x in
        let o = place_own n p q p' q' small h pl y in
        ap (λ (i : ℕ). get_or (set b (pair_at p' q') true) i false) y ∙ get_or-set_same b (pair_at p' q') true false (omega arith)
        ∙ sym (edge_yes s n e p q (sym f ∙ sym o.0) (sym g ∙ sym o.1))
    go false x =
        get_or-set_other b (pair_at p' q') (pair_at p q) true false (eqb-false _ _ x) ∙ r
        ∙ sym (edge_no s n e p q (λ a c. eqb-false (pair_at p q) (pair_at p' q') x (let a' : p' ≡ p = f ∙ a in let c' : q' ≡ q = g ∙ c in omega arith)))
