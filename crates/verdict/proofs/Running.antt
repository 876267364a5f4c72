-- Laws of the running form: its start, one entry more, and that a table and a slot settle it.
-- Assumes nothing.
use mathlib.Core.List.{List}
use mathlib.Core.Path.{◌∙◌, ◌≡◌, ap, sym}
use Prim.Native.Nat.{◌+◌, ◌<◌, ◌≤◌, min, ℕ}
use native.Mathlib.Decide.{dec_lt, ℕ_discrete}
use native.Mathlib.Omega.{arith}
use lib.ListN.{length, length-replicate, length-set, replicate, set}
use lib.Seq.{ext_get_or, get_or-set_other, get_or-set_same}
use Rattle.basics.proofs.At.{get_d_past, zeros_at}
use Rattle.basics.proofs.Below.{entries_zero}
use Rattle.basics.specs.Below.{entries_before}
use Rattle.basics.specs.Marks.{idle}
use Rattle.basics.specs.Units.{units_of}
use Rattle.verdict.proofs.Entries.{count_else, count_here}
use Rattle.verdict.proofs.Switches.{entries_all}
use Rattle.verdict.specs.Count.{Running, entries_in, entry_at}

-- one slot more of the count itself
module _ (table : List ℕ) (t j : ℕ) where
  in_past : length table ≤ t → entries_in table j t ≡ entries_in table j (t + 1)
  unfolding entries_in
  in_past h = ap (entries_before (entry_at table) j) (let e : min t (length table) ≡ min (t + 1) (length table) = omega arith in e)

  pub in_here : t < length table → entry_at table t ≡ j → entries_in table j t + 1 ≡ entries_in table j (t + 1)
  in_here h e = count_here table j t (entries_in table j t) (entries_all table j t (omega arith)) e ∙ sym (entries_all table j (t + 1) (omega arith))

  in_else : ¬ (entry_at table t ≡ j) → entries_in table j t ≡ entries_in table j (t + 1)
  in_else e = go (dec_lt t (length table))
    where
      go : Dec (t < length table) → entries_in table j t ≡ entries_in table j (t + 1)
      go (yes h) = count_else table j t (entries_in table j t) (entries_all table j t (omega arith)) e ∙ sym (entries_all table j (t + 1) (omega arith))
      go (no h) = in_past (omega arith)

-- before slot 0 no job has an entry
pub running_first : (n : ℕ) (table : List ℕ) → Running n table (replicate n 0) 0
unfolding entries_in
running_first n table = record {
  long = length-replicate {A = ℕ} n 0;
  each = λ j h. zeros_at n j ∙ sym (entries_zero (entry_at table) j) ∙ ap (entries_before (entry_at table) j) (let e : 0 ≡ min 0 (length table) = omega arith in e);
}

module _ (n : ℕ) (table counts : List ℕ) (t : ℕ) (now : Running n table counts t) where
  -- the entry is no job's
  pub running_other : n ≤ entry_at table t → Running n table counts (t + 1)
  running_other o = record { long = now.long; each = λ j b. now.each j b ∙ in_else table t j (λ e. absurd (omega (arith, e))) }

  -- the entry is job k's; idle is none, so that the slot lies in the table
  pub running_here : n ≤ idle → (k : ℕ) → k ≡ entry_at table t → k < n → Running n table (set counts k (units_of counts k + 1)) (t + 1)
  running_here few k at l = record { long = length-set counts k _ ∙ now.long; each = λ j b. go j b (ℕ_discrete j k) }
    where
      within : Dec (t < length table) → t < length table
      within (yes h) = h
      within (no h) = absurd (omega (arith, at, get_d_past table t idle (omega arith)))

      go : (j : ℕ) → j < n → Dec (j ≡ k) → units_of (set counts k (units_of counts k + 1)) j ≡ entries_in table j (t + 1)
      go j b (yes p) = ap (units_of (set counts k (units_of counts k + 1))) p ∙ get_or-set_same counts k (units_of counts k + 1) 0 (omega (arith, now.long))
          ∙ ap (λ (x : ℕ). x + 1) (ap (units_of counts) (sym p) ∙ now.each j b) ∙ in_here table t j (within (dec_lt t (length table))) (sym (p ∙ at))
      go j b (no p) = get_or-set_other counts k j (units_of counts k + 1) 0 p ∙ now.each j b ∙ in_else table t j (λ e. p (sym e ∙ sym at))

-- a table and a slot settle the counts
pub settled : (n : ℕ) (table a b : List ℕ) (t : ℕ) → Running n table a t → Running n table b t → a ≡ b
settled n table a b t h g = ext_get_or 0 a b (h.long ∙ sym g.long) (λ j l. h.each j (omega (arith, h.long)) ∙ sym (g.each j (omega (arith, h.long))))

-- so moving on past the table's end changes nothing
pub stays_past : (n : ℕ) (table a b : List ℕ) (t : ℕ) → length table ≤ t → Running n table a t → Running n table b (t + 1) → b ≡ a
stays_past n table a b t p h g = settled n table b a (t + 1) g record { long = h.long; each = λ j l. h.each j l ∙ in_past table t j p }
