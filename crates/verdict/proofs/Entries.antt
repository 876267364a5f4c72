-- Laws of the count: one slot more, its bound, and a job that no byte names.
-- Assumes nothing.
use mathlib.Core.List.{List}
use mathlib.Core.Bool.{Bool, false, true}
use mathlib.Core.Path.{◌∙◌, ◌≡◌, ap, refl, sym}
use borrow.Author.Tests.{eqb-false, eqb-true}
use lib.Dec.{eqb}
use Rattle.std.specs.Prelude.{count_by, take}
use Rattle.std.proofs.lemmas.List.Sums.{count_by_more_no, count_by_more_yes}
use Prim.Native.Nat.{◌+◌, ◌<◌, ◌≤◌, min, suc, zero, ℕ}
use native.Mathlib.Decide.{dec_lt}
use native.Mathlib.Numerals.{add-one}
use native.Mathlib.Omega.{arith}
use lib.ListN.{get_or, length}
use Rattle.basics.proofs.At.{get_d_any, get_d_past}
use Rattle.basics.proofs.Below.{count_at_most, entries_else, entries_here, entries_zero}
use Rattle.basics.specs.Below.{entries_before}
use Rattle.basics.specs.Marks.{idle}
use Rattle.verdict.specs.Count.{entries_in, entry_at}

module _ (table : List ℕ) (job t : ℕ) where
  pub entries_most : entries_before (entry_at table) job t ≤ t
  unfolding entries_before
  entries_most = count_at_most _ t

  pub count_here : (count : ℕ) → count ≡ entries_before (entry_at table) job t → entry_at table t ≡ job → count + 1 ≡ entries_before (entry_at table) job (t + 1)
  count_here count h e = rw (add-one t) (omega (arith, h, entries_here (entry_at table) job t e))

  pub count_else : (count : ℕ) → count ≡ entries_before (entry_at table) job t → ¬ (entry_at table t ≡ job) → count ≡ entries_before (entry_at table) job (t + 1)
  count_else count h e = rw (add-one t) (omega (arith, h, entries_else (entry_at table) job t e))

-- a count of the entries before a slot is one of a list's elements
pub entries_counted : (table : List ℕ) (job t : ℕ) → t ≤ length table → entries_before (entry_at table) job t ≡ count_by (λ x. eqb x job) (take t table)
entries_counted table job zero h = entries_zero (entry_at table) job
entries_counted table job (suc t) h = go (eqb (entry_at table t) job) refl (entries_counted table job t (omega arith))
  where
    go : (b : Bool) → eqb (entry_at table t) job ≡ b → entries_before (entry_at table) job t ≡ count_by (λ x. eqb x job) (take t table) → entries_before (entry_at table) job (suc t) ≡ count_by (λ x. eqb x job) (take (suc t) table)
    go true e ih = entries_here (entry_at table) job t (eqb-true _ _ e) ∙ ap suc ih ∙ sym (add-one _) ∙ sym (count_by_more_yes (λ x. eqb x job) table t idle (omega arith) e) ∙ ap (λ (k : ℕ). count_by (λ x. eqb x job) (take k table)) (add-one t)
    go false e ih = entries_else (entry_at table) job t (eqb-false _ _ e) ∙ ih ∙ sym (count_by_more_no (λ x. eqb x job) table t idle (omega arith) e) ∙ ap (λ (k : ℕ). count_by (λ x. eqb x job) (take k table)) (add-one t)

-- no more than the slots before, nor than the table has
pub entries_in_most : (table : List ℕ) (job t : ℕ) → entries_in table job t ≤ min t (length table)
unfolding entries_in
entries_in_most table job t = entries_most table job (min t (length table))

-- a job above every byte has no entry
module _ (table : List ℕ) (bytes : (i : ℕ) → get_or table i 0 < 256) (job : ℕ) (over : 255 < job) where
  not_named : (t : ℕ) → ¬ (entry_at table t ≡ job)
  not_named t e = go (dec_lt t (length table))
    where
      go : Dec (t < length table) → ⊥
      go (yes p) = absurd (omega (arith, e, bytes t, get_d_any table t 0 idle p))
      go (no p) = absurd (omega (arith, e, get_d_past table t idle (omega arith)))

  pub none_before : (t : ℕ) → entries_before (entry_at table) job t ≡ 0
  none_before zero = entries_zero (entry_at table) job
  none_before (suc t) = entries_else (entry_at table) job t (not_named t) ∙ none_before t
