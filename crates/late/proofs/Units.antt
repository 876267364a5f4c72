-- The units in a table: equal where the entries are, changed by one entry as they should, and counted slot by slot.
-- Assumes nothing.
use Prim.Native.Nat.{ℕ, zero, suc, ◌+◌, ◌≤◌, ◌<◌}
use mathlib.Core.Path.{◌≡◌, refl, sym, ap, ap₂, ◌∙◌}
use mathlib.Core.List.{List}
use mathlib.Core.Bool.{Bool, cond}
use native.Mathlib.Numerals.{add-one}
use native.Mathlib.Omega.{arith}
use native.Mathlib.Decide.{ℕ_discrete}
use borrow.Author.Tests.{eq-eqb, ne_eqb, lt-ltb}
use lib.ListN.{length, set, replicate}
use lib.Seq.{get_or-set_same, get_or-set_other}
use lib.Dec.{eqb, ltb}
use Rattle.basics.specs.Below.{count_below, entries_before}
use Rattle.basics.specs.Units.{units_of, one_more}
use Rattle.basics.proofs.Tests.{of_true}
use Rattle.basics.proofs.Below.{entries_zero, count_at_most}
use Rattle.basics.proofs.Units.{more_on, more_other, more_length}
use Rattle.late.specs.Table.{entry, units}
use Rattle.late.proofs.Marks.{all_alike}

-- one where a test holds
abbrev pub one : Bool → ℕ
one b = cond b 1 0

-- one slot more
pub units_step : (table : List ℕ) (j t : ℕ) → units table (t + 1) j ≡ units table t j + one (eqb (entry table t) j)
unfolding entries_before count_below
units_step table j t = rw (add-one t)

pub units_zero : (table : List ℕ) (j : ℕ) → units table 0 j ≡ 0
units_zero table j = entries_zero (entry table) j

pub units_most : (table : List ℕ) (j t : ℕ) → units table t j ≤ t
unfolding entries_before
units_most table j t = count_at_most (λ i. eqb (entry table i) j) t

-- two tables that agree below t
pub units_same : (a b : List ℕ) (j t : ℕ) → ((x : ℕ) → x < t → entry a x ≡ entry b x) → units a t j ≡ units b t j
unfolding entries_before count_below
units_same a b j zero h = refl
units_same a b j (suc t) h =
    ap₂ (λ m x. m + one (eqb x j)) (units_same a b j t (λ x l. h x (omega arith))) (h t (omega arith))

-- one entry changed at k: its old job loses a unit, its new job has one more
pub units_set : (table : List ℕ) (k v j t : ℕ) → k < t → k < length table → units (set table k v) t j + one (eqb (entry table k) j) ≡ units table t j + one (eqb v j)
unfolding entries_before count_below
units_set table k v j zero h l = absurd (omega arith)
units_set table k v j (suc t) h l = go (ℕ_discrete k t) (λ i. units_set table k v j t i l)
  where
    go : Dec (k ≡ t) → (k < t → units (set table k v) t j + one (eqb (entry table k) j) ≡ units table t j + one (eqb v j))
        → units (set table k v) t j + one (eqb (entry (set table k v) t) j) + one (eqb (entry table k) j) ≡ units table t j + one (eqb (entry table t) j) + one (eqb v j)
    go (yes p) ih =
        rw (sym p, get_or-set_same table k v 0 l, units_same (set table k v) table j k (λ x i. get_or-set_other table k x v 0 (λ q. omega arith))) (omega arith)
    go (no p) ih = rw (get_or-set_other table k t v 0 (λ q. p (sym q))) (omega (arith, ih (omega arith)))

-- the entry at t itself does not count before t
pub units_set_at : (table : List ℕ) (t v j : ℕ) → units (set table t v) t j ≡ units table t j
units_set_at table t v j = units_same (set table t v) table j t (λ x i. get_or-set_other table t x v 0 (λ q. omega arith))

-- `had` has the units of each of n jobs before slot t
pub record Counted (n : ℕ) (had table : List ℕ) (t : ℕ) : Type 0 where
  pub room : n ≤ length had
  pub count : (j : ℕ) → j < n → units_of had j ≡ units table t j

pub counted_none : (n : ℕ) (table : List ℕ) → n ≤ 64 → Counted n (replicate 64 0) table 0
counted_none n table h = record { room = h; count = λ j l. all_alike 64 j 0 ∙ sym (units_zero table j) }

-- one unit more of v, where v is a job
more_one : (n v j : ℕ) (had : List ℕ) → n ≤ length had → j < n → units_of (one_more (ltb v n) v had) j ≡ units_of had j + one (eqb v j)
more_one n v j had room h = go (ℕ_discrete v j)
  where
    go : Dec (v ≡ j) → units_of (one_more (ltb v n) v had) j ≡ units_of had j + one (eqb v j)
    go (yes p) =
        rw (sym p, eq-eqb v v refl, add-one) (more_on (ltb v n) v had (omega arith) (of_true (lt-ltb v n (omega arith))))
    go (no p) = rw (ne_eqb v j p) (more_other (ltb v n) v had j (λ q. p (sym q)) ∙ (let z : units_of had j ≡ units_of had j + 0 = omega arith in z))

module _ (n : ℕ) (had table : List ℕ) (t : ℕ) (c : Counted n had table t) where
  pub counted_few : (j : ℕ) → j < n → units_of had j ≤ t
  counted_few j h = rw (c.count j h) (units_most table j t)

  -- slot t is passed
  pub counted_next : Counted n (one_more (ltb (entry table t) n) (entry table t) had) table (t + 1)
  counted_next =
      record {
        room = rw (more_length (ltb (entry table t) n) (entry table t) had) c.room;
        count = λ j h. more_one n (entry table t) j had c.room h ∙ ap (λ m. m + one (eqb (entry table t) j)) (c.count j h) ∙ sym (units_step table j t);
      }

  -- slot t is filled
  pub counted_put : (v : ℕ) → t < length table → Counted n (one_more (ltb v n) v had) (set table t v) (t + 1)
  counted_put v l =
      record {
        room = rw (more_length (ltb v n) v had) c.room;
        count = λ j h.
            more_one n v j had c.room h
            ∙ ap₂ (λ m x. m + one (eqb x j)) (c.count j h ∙ sym (units_set_at table t v j)) (sym (get_or-set_same table t v 0 l))
            ∙ sym (units_step (set table t v) j t);
      }
