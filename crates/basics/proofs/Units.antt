-- Laws of one unit more.
-- Assumes nothing.
use mathlib.Core.Bool.{Bool, true, false}
use mathlib.Core.List.{List}
use mathlib.Core.Path.{◌≡◌, refl, subst, sym}
use Prim.Native.Nat.{ℕ, suc, ◌≤◌, ◌<◌}
use native.Mathlib.Omega.{arith}
use borrow.Author.Tests.{eqb-true, eqb-false, ltb-true, ltb-false}
use lib.ListN.{length, set, length-set}
use lib.Seq.{get_or-set_same, get_or-set_other, set_out}
use lib.Dec.{T, ltb, eqb}
use Rattle.basics.specs.Units.{units_of, one_more}

-- the job that ran has one more
pub more_on : (b : Bool) (j : ℕ) (u : List ℕ) → j < length u → T b → units_of (one_more b j u) j ≡ suc (units_of u j)
unfolding one_more
more_on true j u l t = get_or-set_same u j (suc (units_of u j)) 0 l
more_on false j u l t = absurd t

-- where none ran, nothing changes
pub more_off : (j : ℕ) (u : List ℕ) → one_more false j u ≡ u
unfolding one_more
more_off j u = refl

-- every other job has what it had
pub more_other : (b : Bool) (j : ℕ) (u : List ℕ) (i : ℕ) → ¬ (i ≡ j) → units_of (one_more b j u) i ≡ units_of u i
unfolding one_more
more_other false j u i h = refl
more_other true j u i h = get_or-set_other u j i (suc (units_of u j)) 0 h

pub more_length : (b : Bool) (j : ℕ) (u : List ℕ) → length (one_more b j u) ≡ length u
unfolding one_more
more_length false j u = refl
more_length true j u = length-set u j (suc (units_of u j))

-- no count falls
pub more_up : (b : Bool) (j : ℕ) (u : List ℕ) (i : ℕ) → units_of u i ≤ units_of (one_more b j u) i
unfolding one_more
more_up false j u i = omega arith
more_up true j u i = go (eqb i j) (ltb j (length u)) refl refl
  where
    go : (x y : Bool) → eqb i j ≡ x → ltb j (length u) ≡ y → units_of u i ≤ units_of (set u j (suc (units_of u j))) i
    go false y p q = let h = get_or-set_other u j i (suc (units_of u j)) 0 (eqb-false i j p) in omega arith
    go true false p q = rw (set_out u j (suc (units_of u j)) (ltb-false j (length u) q)) (omega arith)
    go true true p q =
        subst (λ (k : ℕ). units_of u k ≤ units_of (set u j (suc (units_of u j))) k) (sym (eqb-true i j p))
        (let h = get_or-set_same u j (suc (units_of u j)) 0 (ltb-true j (length u) q) in omega arith)

-- and none rises by more than one
pub more_bound : (b : Bool) (j : ℕ) (u : List ℕ) (t : ℕ) → ((i : ℕ) → units_of u i ≤ t) → (i : ℕ) → units_of (one_more b j u) i ≤ suc t
unfolding one_more
more_bound false j u t h i = omega (arith, h i)
more_bound true j u t h i = go (eqb i j) (ltb j (length u)) refl refl
  where
    go : (x y : Bool) → eqb i j ≡ x → ltb j (length u) ≡ y → units_of (set u j (suc (units_of u j))) i ≤ suc t
    go false y p q = let e = get_or-set_other u j i (suc (units_of u j)) 0 (eqb-false i j p) in omega (arith, h i)
    go true false p q = rw (set_out u j (suc (units_of u j)) (ltb-false j (length u) q)) (omega (arith, h i))
    go true true p q =
        subst (λ (k : ℕ). units_of (set u j (suc (units_of u j))) k ≤ suc t) (sym (eqb-true i j p))
        (let e = get_or-set_same u j (suc (units_of u j)) 0 (ltb-true j (length u) q) in omega (arith, h j))
