-- Laws of one more job, one more round and one more edge.
-- Assumes nothing.
use Prim.Native.Nat.{ℕ, zero, suc, ◌+◌, ◌≤◌, ◌<◌, max}
use mathlib.Core.Path.{◌≡◌, refl, sym, ap, ◌∙◌}
use mathlib.Core.List.{List}
use mathlib.Core.Bool.{Bool, true, false, beq, ◌&&◌, ◌||◌, and-false}
use native.Mathlib.Numerals.{add-one}
use native.Mathlib.Omega.{arith}
use native.Mathlib.Decide.{ℕ_discrete}
use borrow.Author.Tests.{eq-eqb, ne_eqb}
use lib.Dec.{eqb}
use lib.ListN.{length, get_or, set, take}
use lib.Seq.{get_or-set_same, get_or-set_other}
use Rattle.std.specs.List.{list_any}
use Rattle.std.proofs.lemmas.List.Folds.{list_any_more}
use Rattle.basics.specs.Below.{any_below}
use Rattle.basics.proofs.Below.{any_step, any_same}
use Rattle.joblist.specs.Fields.{deadline, edge_from, edge_to}
use Rattle.joblist.specs.Cycle.{reached, walk, Named}
use Rattle.joblist.specs.Answer.{largest}

pub largest_zero : (s : List ℕ) → largest s 0 ≡ 0
unfolding largest
largest_zero s = refl

pub largest_step : (s : List ℕ) (n : ℕ) → largest s (n + 1) ≡ max (largest s n) (deadline s n)
unfolding largest
largest_step s n = rw add-one

module _ (s : List ℕ) (n m : ℕ) where
  pub walk_zero : (j : ℕ) → walk s n m 0 j ≡ true
  unfolding walk
  walk_zero j = refl

  pub walk_step : (k j : ℕ) → walk s n m (k + 1) j ≡ reached s n m (walk s n m k) j
  unfolding walk
  walk_step k j = rw add-one

  -- only the jobs below n are asked
  pub reached_same : Named s n m → (f g : ℕ → Bool) → ((i : ℕ) → i < n → f i ≡ g i) → (j : ℕ) → reached s n m f j ≡ reached s n m g j
  reached_same named f g same j =
      any_same _ _ m (λ e h. ap (λ x. eqb (edge_to s n e) j && x) (same (edge_from s n e) (named e h).0))

-- whether one of the first n is alive
pub any_alive : (alive : List Bool) (n : ℕ) → n ≤ length alive → list_any (λ y. beq y true) (take n alive) ≡ any_below (λ i. get_or alive i false) n
unfolding any_below
any_alive alive zero h = refl
any_alive alive (suc n) h =
    ap (λ k. list_any (λ y. beq y true) (take k alive)) (sym (add-one n))
    ∙ list_any_more (λ y. beq y true) alive n false (omega arith)
    ∙ turned (get_or alive n false) _ _ (any_alive alive n (omega arith))
  where
    turned : (b x y : Bool) → x ≡ y → (x || beq b true) ≡ (b || y)
    turned true false y h = refl
    turned true true y h = refl
    turned false false y h = h
    turned false true y h = h

-- one more edge marks the job that it comes to, where the job that it comes from is alive
module _ (s : List ℕ) (n e : ℕ) (alive next : List Bool) (j : ℕ) (sofar : get_or next j false ≡ reached s n e (λ i. get_or alive i false) j) where
  pub mark_no : get_or alive (edge_from s n e) false ≡ false → get_or next j false ≡ reached s n (e + 1) (λ i. get_or alive i false) j
  mark_no h = rw (any_step, h, and-false) sofar

  pub mark_yes : edge_to s n e < length next → get_or alive (edge_from s n e) false ≡ true → get_or (set next (edge_to s n e) true) j false ≡ reached s n (e + 1) (λ i. get_or alive i false) j
  mark_yes l h = go (ℕ_discrete j (edge_to s n e))
    where
      go : Dec (j ≡ edge_to s n e) → get_or (set next (edge_to s n e) true) j false ≡ reached s n (e + 1) (λ i. get_or alive i false) j
      go (yes p) = rw (any_step, h, eq-eqb _ _ (sym p), p) (get_or-set_same next (edge_to s n e) true false l)
      go (no p) = rw (any_step, ne_eqb (edge_to s n e) j (λ z. p (sym z))) (get_or-set_other next (edge_to s n e) j true false p ∙ sofar)
