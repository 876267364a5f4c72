-- What is found first: as the code says it, and as the library's searches do.
-- Assumes nothing.
use mathlib.Core.Bool.{Bool, cond, false, true}
use mathlib.Core.Option.{Option, none, some}
use mathlib.Core.List.{List, [], ◌∷◌, ◌++◌}
use mathlib.Core.Path.{◌≡◌, ◌∙◌, ap, ap₂, refl, sym}
use Prim.Native.Nat.{◌+◌, suc, zero, ℕ}
use native.Mathlib.Numerals.{add-one}
use native.Mathlib.Omega.{arith}
use Rattle.std.specs.Prelude.{Option as First, Some, None, is_none, option_map}
use Rattle.std.specs.List.{range_with_len, find as find_in, position_from, position_or_len}
use Rattle.std.proofs.lemmas.Iterator.Adapters.{position_from-zero}
use Rattle.std.proofs.Common.{append_assoc, length-append}
use Rattle.std.proofs.Math.Seq.{get_or-append_seam}
use lib.Dec.{ltb}
use lib.ListN.{get_or, length}
use Rattle.basics.specs.Find.{find, is_none as nothing_in}
use Rattle.verdict.specs.Inner.{first_of}

-- what the code was told is what was found
pub first_none : (o : Option ℕ) → first_of o ≡ None → o ≡ none
first_none none h = refl
first_none (some i) h = let z : ◌≡◌ {A = ℕ} 0 1 = cc in absurd (omega arith)

pub first_some : (o : Option ℕ) (p : ℕ) → first_of o ≡ Some p → o ≡ some p
first_some none p h = let z : ◌≡◌ {A = ℕ} 0 1 = cc in absurd (omega arith)
first_some (some i) p h = let z : i ≡ p = cc in ap some z

pub none_is : (o : Option ℕ) → is_none (first_of o) ≡ nothing_in o
none_is none = refl
none_is (some i) = refl

-- a search of the numbers from i on
find_numbers : (f : ℕ → Bool) (k i : ℕ) → find_in f (range_with_len i k) ≡ first_of (find f k i)
unfolding find
find_numbers f zero i = refl
find_numbers f (suc k) i = go (f i) (rw (add-one i) (find_numbers f k (suc i)))
  where
    go : (b : Bool) → find_in f (range_with_len (i + 1) k) ≡ first_of (find f k (suc i)) → cond b (Some i) (find_in f (range_with_len (i + 1) k)) ≡ first_of (elim b [ true ↦ some i | false ↦ find f k (suc i) ])
    go true h = refl
    go false h = h

-- as the library says it of a range
pub first_below : (f : ℕ → Bool) (n : ℕ) (r : First ℕ) → option_map (λ x. x) r ≡ find_in f (range_with_len 0 n) → r ≡ first_of (find f n 0)
first_below f n r h = same r ∙ h ∙ find_numbers f n 0
  where
    same : (o : First ℕ) → o ≡ option_map (λ x. x) o
    same None = refl
    same (Some x) = refl

-- and of the entries of a list, the first that passes
entries_from : (p : ℕ → Bool) (d : ℕ) (front xs : List ℕ) → position_from p (length front) xs ≡ first_of (find (λ t. p (get_or (front ++ xs) t d)) (length xs) (length front))
unfolding find
entries_from p d front [] = refl
entries_from p d front (x ∷ xs) =
    let long : length (front ++ x ∷ []) ≡ length front + 1 = length-append front (x ∷ []) in
    let rest : position_from p (length front + 1) xs ≡ first_of (find (λ t. p (get_or (front ++ x ∷ xs) t d)) (length xs) (suc (length front))) = ap (λ (k : ℕ). position_from p k xs) (sym long) ∙ entries_from p d (front ++ x ∷ []) xs ∙ ap₂ (λ (ys : List ℕ) (k : ℕ). first_of (find (λ t. p (get_or ys t d)) (length xs) k)) (append_assoc front (x ∷ []) xs) (long ∙ add-one (length front)) in
    rw (get_or-append_seam front x xs d) (go (p x) rest)
  where
    go : (b : Bool) → position_from p (length front + 1) xs ≡ first_of (find (λ t. p (get_or (front ++ x ∷ xs) t d)) (length xs) (suc (length front)))
        → cond b (Some (length front)) (position_from p (length front + 1) xs) ≡ first_of (elim b [ true ↦ some (length front) | false ↦ find (λ t. p (get_or (front ++ x ∷ xs) t d)) (length xs) (suc (length front)) ])
    go true h = refl
    go false h = h

pub first_entry : (p : ℕ → Bool) (d : ℕ) (xs : List ℕ) (r : First ℕ) → r ≡ cond (ltb (position_or_len p xs) (length xs)) (Some (position_or_len p xs)) None
    → r ≡ first_of (find (λ t. p (get_or xs t d)) (length xs) 0)
first_entry p d xs r h = h ∙ position_from-zero p xs ∙ entries_from p d [] xs
