-- Among more numbers than there are below n, two are the same.
-- Assumes nothing.
use Prim.Native.Nat.{ℕ, zero, suc, ◌≤◌, ◌<◌}
use mathlib.Core.Path.{◌≡◌, refl, sym, ◌∙◌}
use mathlib.Core.Logic.{◌⊎◌, inl, inr}
use mathlib.Core.Bool.{Bool, true, false}
use native.Mathlib.Omega.{arith}
use native.Mathlib.Decide.{ℕ_discrete}
use borrow.Author.Tests.{eqb-true, eq-eqb}
use lib.Dec.{eqb}
use Rattle.basics.specs.Below.{any_below}
use Rattle.basics.proofs.Below.{Found, any_hit, any_found}
use Rattle.basics.proofs.Tests.{not_both}

-- two of the numbers v 0 to v n are the same
pub record Twice (v : ℕ → ℕ) (n : ℕ) : Type 0 where
  pub i : ℕ
  pub k : ℕ
  pub before : i < k
  pub last : k ≤ n
  pub same : v i ≡ v k

-- the same as v, with n taken for x
swapped : (v : ℕ → ℕ) (n x i : ℕ) → Dec (v i ≡ n) → ℕ
swapped v n x i (yes p) = x
swapped v n x i (no p) = v i

search_same : (v : ℕ → ℕ) (x n : ℕ) → Found (λ i. eqb (v i) x) n ⊎ ((i : ℕ) → i < n → v i ≡ x → ⊥)
search_same v x n = go (any_below (λ i. eqb (v i) x) n) refl
  where
    go : (b : Bool) → any_below (λ i. eqb (v i) x) n ≡ b → Found (λ i. eqb (v i) x) n ⊎ ((i : ℕ) → i < n → v i ≡ x → ⊥)
    go true e = inl (any_found _ n e)
    go false e = inr (λ i h p. not_both (any_hit (λ i. eqb (v i) x) n i h (eq-eqb _ _ p)) e)

pub pigeons : (n : ℕ) (v : ℕ → ℕ) → ((i : ℕ) → i ≤ n → v i < n) → Twice v n
unfolding swapped
pigeons zero v h = absurd (let l = h 0 (omega arith) in omega arith)
pigeons (suc n) v h = go (search_same v (v (suc n)) (suc n)) (λ w l. pigeons n w l)
  where
    w : ℕ → ℕ
    w i = swapped v n (v (suc n)) i (ℕ_discrete (v i) n)

    small : (i : ℕ) (d : Dec (v i ≡ n)) → i ≤ n → (v i ≡ v (suc n) → ⊥) → swapped v n (v (suc n)) i d < n
    small i (yes p) l ne = let a = h (suc n) (omega arith) in let b : v (suc n) ≡ n → ⊥ = λ e. ne (p ∙ sym e) in omega arith
    small i (no p) l ne = let a = h i (omega arith) in omega arith

    back : (i k : ℕ) (d : Dec (v i ≡ n)) (f : Dec (v k ≡ n)) → (v i ≡ v (suc n) → ⊥) → (v k ≡ v (suc n) → ⊥) → swapped v n (v (suc n)) i d ≡ swapped v n (v (suc n)) k f → v i ≡ v k
    back i k (yes p) (yes q) a b e = p ∙ sym q
    back i k (yes p) (no q) a b e = absurd (b (sym e))
    back i k (no p) (yes q) a b e = absurd (a e)
    back i k (no p) (no q) a b e = e

    go : Found (λ i. eqb (v i) (v (suc n))) (suc n) ⊎ ((i : ℕ) → i < suc n → v i ≡ v (suc n) → ⊥) → ((w : ℕ → ℕ) → ((i : ℕ) → i ≤ n → w i < n) → Twice w n) → Twice v (suc n)
    go (inl f) r = record { i = f.at; k = suc n; before = f.below; last = omega arith; same = eqb-true _ _ f.holds }
    go (inr none) r =
        let t = r w (λ i l. small i (ℕ_discrete (v i) n) l (none i (omega arith))) in
        record {
          i = t.i;
          k = t.k;
          before = t.before;
          last = omega arith;
          same = back t.i t.k (ℕ_discrete (v t.i) n) (ℕ_discrete (v t.k) n) (none t.i (omega arith)) (none t.k (omega arith)) t.same;
        }
