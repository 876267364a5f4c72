-- Tests joined by and, or: as a type `T b` and as an equation `b ≡ true`.
-- Assumes nothing.
use mathlib.Core.Bool.{Bool, true, false, ◌&&◌, ◌||◌}
use mathlib.Core.Path.{◌≡◌, refl, sym, subst}
use mathlib.Core.Logic.{◌⊎◌, inl, inr}
use Prim.Native.Nat.{ℕ}
use native.Mathlib.Omega.{arith}
use lib.Dec.{T, eqb, eqb_refl}

pub truth : (b : Bool) → T b → b ≡ true
truth true t = refl
truth false t = absurd t

pub lie : (b : Bool) → ¬ T b → b ≡ false
lie true t = absurd (t tt)
lie false t = refl

pub of_true : {b : Bool} → b ≡ true → T b
of_true e = subst T (sym e) tt

pub of_false : {b : Bool} → b ≡ false → ¬ T b
of_false e t = subst T e t

pub not_both : {b : Bool} → b ≡ true → b ≡ false → ⊥
not_both p q = let z : ◌≡◌ {A = ℕ} 0 1 = cc in omega arith

pub decide : (b : Bool) → T b ⊎ ¬ T b
decide true = inl tt
decide false = inr (λ x. x)

pub eq→eqb : (a b : ℕ) → a ≡ b → T (eqb a b)
eq→eqb a b e = subst (λ (x : ℕ). T (eqb a x)) e (eqb_refl a)

pub and_l : (a b : Bool) → T (a && b) → T a
and_l true b t = tt
and_l false b t = t

pub and_r : (a b : Bool) → T (a && b) → T b
and_r true b t = t
and_r false b t = absurd t

pub and_i : (a b : Bool) → T a → T b → T (a && b)
and_i true b s t = t
and_i false b s t = s

pub or_l : (a b : Bool) → T a → T (a || b)
or_l true b t = tt
or_l false b t = absurd t

pub or_r : (a b : Bool) → T b → T (a || b)
or_r true b t = tt
or_r false b t = t

pub or_not : (a b : Bool) → T (a || b) → ¬ T a → T b
or_not true b t h = absurd (h tt)
or_not false b t h = t

-- the same of equations
pub and_left : (a b : Bool) → (a && b) ≡ true → a ≡ true
and_left true b h = refl
and_left false b h = h

pub and_right : (a b : Bool) → (a && b) ≡ true → b ≡ true
and_right true b h = h
and_right false true h = refl
and_right false false h = h

pub and_both : (a b : Bool) → a ≡ true → b ≡ true → (a && b) ≡ true
and_both true b p q = q
and_both false b p q = p

pub or_right : (a b : Bool) → b ≡ true → (a || b) ≡ true
or_right true b h = refl
or_right false b h = h
