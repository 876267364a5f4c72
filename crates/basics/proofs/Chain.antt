-- Laws of the chain of refusals: what a yes says of its parts.
-- Assumes nothing.
use Prim.Native.Nat.{ℕ, zero, suc, ◌+◌, ◌≤◌, ◌<◌}
use mathlib.Core.Path.{◌≡◌, refl, sym, ◌∙◌}
use mathlib.Core.Bool.{Bool, true, false}
use native.Mathlib.Numerals.{add-one}
use native.Mathlib.Omega.{arith}
use Rattle.std.specs.Prelude.{Result, Ok, Err}
use Rattle.basics.specs.Chain.{◌⨾◌, need, each}
use Rattle.basics.specs.Turns.{turns}
use Rattle.basics.proofs.Turns.{turns_step, turns_end, turns_same}

module _ {E : Type 0} where
  -- the first is yes, and so is the rest
  pub both_good : {U : Type 0} {y : U} (a : Result Unit E) (r : Result U E) → a ⨾ r ≡ Ok y → (a ≡ Ok tt) × (r ≡ Ok y)
  both_good (Ok x) r h = (refl, h)
  both_good (Err w) r h = cc

  -- the test holds
  pub need_good : (b : Bool) (w : E) → need b w ≡ Ok tt → b ≡ true
  need_good true w h = refl
  need_good false w h = cc

  -- the test holds, and the rest is yes
  pub row_good : {U : Type 0} {y : U} (b : Bool) (w : E) (r : Result U E) → need b w ⨾ r ≡ Ok y → (b ≡ true) × (r ≡ Ok y)
  row_good true w r h = (refl, h)
  row_good false w r h = cc

  -- each of those that were asked in turn is yes
  pub each_good : (f : ℕ → Result Unit E) (n : ℕ) → each n f ≡ Ok tt → (k : ℕ) → k < n → f k ≡ Ok tt
  each_good f n h k less = (both_good _ _ (sym (turns_step ◌⨾◌ (Ok tt) f n k less) ∙ from k (omega arith))).0
    where
      from : (i : ℕ) → i ≤ n → turns ◌⨾◌ (Ok tt) f n i ≡ Ok tt
      from zero l = h
      from (suc i) l =
          rw add-one at (both_good (f i) _ (sym (turns_step ◌⨾◌ (Ok tt) f n i l) ∙ from i (omega arith))).1

  -- answers that agree in each turn agree
  pub each_same : (f g : ℕ → Result Unit E) (n : ℕ) → ((k : ℕ) → k < n → f k ≡ g k) → each n f ≡ each n g
  each_same f g n same = turns_same ◌⨾◌ (Ok tt) f g n same

-- a loop that asks in turn: one turn more, the turn that refuses, and the end
module _ {E : Type 0} (f : ℕ → Result Unit E) (n i : ℕ) {whole : Result Unit E} (sofar : whole ≡ turns ◌⨾◌ (Ok tt) f n i) where
  pub turn_good : i < n → f i ≡ Ok tt → whole ≡ turns ◌⨾◌ (Ok tt) f n (i + 1)
  turn_good l g = let e = sofar ∙ turns_step ◌⨾◌ (Ok tt) f n i l in rw g at e

  pub turn_no : (w : E) → i < n → f i ≡ Err w → Err w ≡ whole
  turn_no w l g = let e = sofar ∙ turns_step ◌⨾◌ (Ok tt) f n i l in sym (rw g at e)

  pub turn_end : n ≤ i → Ok tt ≡ whole
  turn_end l = sym (sofar ∙ turns_end ◌⨾◌ (Ok tt) f n i l)
