-- What a search from the front or from the back finds, said by `lowest`, `highest` and the first refusal.
-- Assumes nothing.
use Rattle.std.proofs.Common.{◌≡◌, ◌∙◌, refl, sym, ap, ℕ, zero, suc, ◌+◌, ◌-◌, ◌<◌, ◌≤◌, Bool, true, false, cond, Option, Some, None, Result, Ok, Err, MatchOption, unwrap_or, ltb, arith}
use Rattle.std.specs.Result.{result_and}
use native.Mathlib.Decide.{dec_lt}
use borrow.Author.Tests.{lt-ltb, le-ltb}
use Rattle.basics.specs.Find.{lowest, highest}
use Rattle.basics.specs.Turns.{turns}
use Rattle.basics.proofs.Find.{lowest_skip, lowest_hit, lowest_end, highest_step}
use Rattle.basics.proofs.Turns.{turns_step, turns_end}

-- the first number from a on, below n, that passes; or none does
abbrev pub First : (ℕ → Bool) → ℕ → ℕ → Option ℕ → Type 0
First f a n r =
    MatchOption r ((k : ℕ) → a ≤ k → k < n → f k ≡ false) (λ i. (a ≤ i) × (i < n) × (f i ≡ true) × ((k : ℕ) → a ≤ k → k < i → f k ≡ false))

module _ (f : ℕ → Bool) (n a : ℕ) where
  passed : (d : ℕ) → a + d ≤ n → ((k : ℕ) → a ≤ k → k < a + d → f k ≡ false) → lowest f n a ≡ lowest f n (a + d)
  passed zero h p = ap (lowest f n) (let z : a ≡ a + 0 = omega arith in z)
  passed (suc d) h p =
      passed d (omega arith) (λ k i l. p k i (omega arith))
      ∙ lowest_skip f n (a + d) (omega arith) (p (a + d) (omega arith) (omega arith))
      ∙ ap (lowest f n) (let z : a + d + 1 ≡ a + suc d = omega arith in z)

  to : (i : ℕ) → a ≤ i → i ≤ n → ((k : ℕ) → a ≤ k → k < i → f k ≡ false) → lowest f n a ≡ lowest f n i
  to i l h p =
      passed (i - a) (omega arith) (λ k j m. p k j (omega arith)) ∙ ap (lowest f n) (let z : a + (i - a) ≡ i = omega arith in z)

  pub first_lowest : (r : Option ℕ) → First f a n r → unwrap_or r n ≡ lowest f n a
  first_lowest None p = sym (go (dec_lt n a))
    where
      go : Dec (n < a) → lowest f n a ≡ n
      go (yes l) = lowest_end f n a (omega arith)
      go (no l) = to n (omega arith) (omega arith) p ∙ lowest_end f n n (omega arith)
  first_lowest (Some i) p = sym (to i p.0 (omega arith) p.3 ∙ lowest_hit f n i p.1 p.2)

  -- the same as an option
  pub first_found : (r : Option ℕ) → First f a n r → r ≡ cond (ltb (lowest f n a) n) (Some (lowest f n a)) None
  first_found None p = let e : n ≡ lowest f n a = first_lowest None p in rw (← e, le-ltb n n (omega arith))
  first_found (Some i) p = let e : i ≡ lowest f n a = first_lowest (Some i) p in rw (← e, lt-ltb i n p.1)

-- from the back: the number before x passes, or is passed over
module _ (f : ℕ → Bool) (t x : ℕ) (some : 0 < x) where
  back : highest f t x ≡ cond (f (x - 1)) (x - 1) (highest f t (x - 1))
  back = ap (highest f t) (let z : x ≡ x - 1 + 1 = omega arith in z) ∙ highest_step f t (x - 1)

  pub highest_hit : f (x - 1) ≡ true → highest f t x ≡ x - 1
  highest_hit p = back ∙ rw p

  pub highest_skip : f (x - 1) ≡ false → highest f t x ≡ highest f t (x - 1)
  highest_skip p = back ∙ rw p

-- the refusals e k of those that pass, in turn: the first
module _ {E : Type 0} (f : ℕ → Bool) (e : ℕ → E) (n : ℕ) where
  abbrev pub refusals : ℕ → Result (Unit {0}) E
  refusals i = turns result_and (Ok tt) (λ k. cond (f k) (Err (e k)) (Ok tt)) n i

  past : (i : ℕ) → i ≤ n → ((k : ℕ) → k < i → f k ≡ false) → refusals 0 ≡ refusals i
  past zero h p = refl
  past (suc i) h p =
      past i (omega arith) (λ k l. p k (omega arith))
      ∙ turns_step result_and (Ok tt) (λ k. cond (f k) (Err (e k)) (Ok tt)) n i (omega arith)
      ∙ rw (p i (omega arith)) (ap refusals (let z : i + 1 ≡ suc i = omega arith in z))

  pub first_refusal : (r : Option ℕ) → First f 0 n r → refusals 0 ≡ elim r [ None ↦ Ok tt | Some i ↦ Err (e i) ]
  first_refusal None p =
      past n (omega arith) (λ k l. p k (omega arith) l) ∙ turns_end result_and (Ok tt) (λ k. cond (f k) (Err (e k)) (Ok tt)) n n (omega arith)
  first_refusal (Some i) p =
      past i (omega arith) (λ k l. p.3 k (omega arith) l)
      ∙ turns_step result_and (Ok tt) (λ k. cond (f k) (Err (e k)) (Ok tt)) n i p.1
      ∙ rw p.2
