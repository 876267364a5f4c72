-- What is read at a place of a list: within it, past its end, after one entry is set, and of zeros.
-- Assumes nothing.
use mathlib.Core.List.{List, [], ◌∷◌}
use mathlib.Core.Path.{◌≡◌, refl, sym, ap, subst, ◌∙◌}
use mathlib.Core.Bool.{Bool, true, false}
use Prim.Native.Nat.{ℕ, zero, suc, ◌<◌, ◌≤◌}
use native.Mathlib.Omega.{arith}
use lib.ListN.{get_or, length, set, replicate}
use lib.Seq.{get_or-set_same, get_or-set_other, set_out}
use lib.Dec.{eqb, ltb}
use borrow.Author.Tests.{ltb-true, ltb-false, eqb-true, eqb-false}

-- what is read within a list does not hang on what stands past it
pub get_d_any : {A : Type 0} (l : List A) (i : ℕ) (d d' : A) → i < length l → get_or l i d ≡ get_or l i d'
get_d_any [] i d d' h = absurd (omega arith)
get_d_any (x ∷ l) zero d d' h = refl
get_d_any (x ∷ l) (suc i) d d' h = get_d_any l i d d' (omega arith)

-- past its end a list has what stands there
pub get_d_past : {A : Type 0} (l : List A) (i : ℕ) (d : A) → length l ≤ i → get_or l i d ≡ d
get_d_past [] i d h = refl
get_d_past (x ∷ l) zero d h = absurd (omega arith)
get_d_past (x ∷ l) (suc i) d h = get_d_past l i d (omega arith)

-- what each entry of a list has, each has after one is set to what has it
pub set_each : (P : ℕ → Type 0) (l : List ℕ) (j v i : ℕ) → P v → P (get_or l i 0) → P (get_or (set l j v) i 0)
set_each P l j v i a b = go (eqb i j) refl (ltb j (length l)) refl
  where
    go : (x : Bool) → eqb i j ≡ x → (y : Bool) → ltb j (length l) ≡ y → P (get_or (set l j v) i 0)
    go false p y q = subst P (sym (get_or-set_other l j i v 0 (eqb-false i j p))) b
    go true p true q =
        subst P (sym (ap (λ k. get_or (set l j v) k 0) (eqb-true i j p) ∙ get_or-set_same l j v 0 (ltb-true j (length l) q))) a
    go true p false q = subst P (sym (ap (λ m. get_or m i 0) (set_out l j v (ltb-false j (length l) q)))) b

-- a list of zeros has zeros only
pub zeros_at : (n i : ℕ) → ◌≡◌ {A = ℕ} (get_or (replicate n 0) i 0) 0
zeros_at zero i = refl
zeros_at (suc n) zero = refl
zeros_at (suc n) (suc i) = zeros_at n i
