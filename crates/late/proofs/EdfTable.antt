-- The table of earliest deadline first, once it is filled: its entries are choices made with the units that it has before them.
-- Assumes nothing.
use Rattle.joblist.specs.Fields.{jobs, slots, arrival, deadline}
use Rattle.basics.proofs.Tests.{and_left, and_right}
use Rattle.basics.specs.Choice.{earliest}
use lib.Dec.{eqb, ltb, leb}
use lib.Seq.{get_or-set_same, get_or-set_other}
use lib.ListN.{length, set}
use borrow.Author.Tests.{eq-eqb, ne_eqb, ltb-true, leb-true, not-true}
use native.Mathlib.Decide.{ℕ_discrete}
use native.Mathlib.Omega.{arith}
use native.Mathlib.Numerals.{add-one}
use mathlib.Core.Bool.{true, false}
use mathlib.Core.List.{List}
use mathlib.Core.Logic.{inl, inr}
use mathlib.Core.Path.{◌≡◌, sym, ◌∙◌}
use Prim.Native.Nat.{ℕ, zero, suc, ◌+◌, ◌-◌, ◌≤◌, ◌<◌}
use Rattle.late.specs.Table.{entry, units, waits}
use Rattle.late.specs.Late.{ready, takes, unfinished, chosen, edf_at}
use Rattle.basics.proofs.Choice.{Choice, earliest_is}
use Rattle.late.proofs.Units.{one, units_step, units_zero, units_same}
use Rattle.late.proofs.Earliest.{edf_long}

-- no count falls from slot to slot
pub units_up : (table : List ℕ) (j x k : ℕ) → units table x j ≤ units table (x + k) j
units_up table j x zero = let e : x + 0 ≡ x = omega arith in rw e (omega arith)
units_up table j x (suc k) =
    let e : x + suc k ≡ x + k + 1 = omega arith in
    rw (e, units_step table j (x + k)) (omega (arith, units_up table j x k))

pub units_later : (table : List ℕ) (j x t : ℕ) → x ≤ t → units table x j ≤ units table t j
units_later table j x t h = let e : x + (t - x) ≡ t = omega arith in rw e at (units_up table j x (t - x))

module _ (s : List ℕ) (v : ℕ) (start : List ℕ) where
  edf_at_lem : (t x : ℕ) → x < t → t ≤ length start → entry (edf_at s v start t) x ≡ chosen s v (edf_at s v start x) x
  unfolding edf_at
  edf_at_lem zero x h l = absurd (omega arith)
  edf_at_lem (suc t) x h l = go (ℕ_discrete x t) (λ k. edf_at_lem t x k (omega arith))
    where
      go : Dec (x ≡ t) → (x < t → entry (edf_at s v start t) x ≡ chosen s v (edf_at s v start x) x)
          → entry (set (edf_at s v start t) t (chosen s v (edf_at s v start t) t)) x ≡ chosen s v (edf_at s v start x) x
      go (yes p) r = rw p (get_or-set_same (edf_at s v start t) t (chosen s v (edf_at s v start t) t) 0 (rw (edf_long s v start t) (omega arith)))
      go (no p) r = get_or-set_other (edf_at s v start t) t x (chosen s v (edf_at s v start t) t) 0 p ∙ r (omega arith)

  -- the units before slot x are those of the table filled so far
  edf_units : (t x j : ℕ) → x ≤ t → t ≤ length start → units (edf_at s v start x) x j ≡ units (edf_at s v start t) x j
  edf_units t x j h l =
      units_same (edf_at s v start x) (edf_at s v start t) j x (λ y i. edf_at_lem x y i (omega arith) ∙ sym (edf_at_lem t y (omega arith) l))

  -- each entry of the filled table is the choice for its slot
  pub edf_entry : length start ≡ slots s → (x : ℕ) → x < slots s → entry (edf_at s v start (slots s)) x ≡ chosen s v (edf_at s v start (slots s)) x
  unfolding chosen unfinished
  edf_entry long x h =
      edf_at_lem (slots s) x h (omega arith)
      ∙ (λ z. earliest (ready s (λ j. ltb (edf_units (slots s) x j (omega arith) (omega arith) z) (takes s v j)) x) (deadline s) (jobs s))

-- a table whose entries are the choices for their slots
module _ (s : List ℕ) (v : ℕ) (few : jobs s ≤ 254) (table : List ℕ) (Chosen-at : (x : ℕ) → x < slots s → entry table x ≡ chosen s v table x) where
  -- each slot holds the best of the ready jobs, or is idle where no job is ready
  pub edf_choice : (t : ℕ) → t < slots s → Choice (ready s (unfinished s v table t) t) (deadline s) (jobs s) (entry table t)
  unfolding chosen
  edf_choice t h = rw (Chosen-at t h) (earliest_is (ready s (unfinished s v table t) t) (deadline s) (jobs s) (omega arith))

  is_ready_lem : (t : ℕ) → t < slots s → entry table t < jobs s → ready s (unfinished s v table t) t (entry table t) ≡ true
  is_ready_lem t h l = elim (edf_choice t h) [ inl c ↦ absurd (omega (arith, c.0)) | inr c ↦ c.is_ready ]

  -- the job of a slot has arrived, is owed a unit, and does not wait
  pub arrived : (t : ℕ) → t < slots s → entry table t < jobs s → arrival s (entry table t) ≤ t
  unfolding ready
  arrived t h l = leb-true _ _ (and_left (leb (arrival s (entry table t)) t) _ (is_ready_lem t h l))

  pub owed : (t : ℕ) → t < slots s → entry table t < jobs s → units table t (entry table t) < takes s v (entry table t)
  unfolding ready unfinished
  owed t h l = ltb-true _ _ (and_left (ltb (units table t (entry table t)) (takes s v (entry table t))) _ (and_right (leb (arrival s (entry table t)) t) _ (is_ready_lem t h l)))

  pub free : (t : ℕ) → t < slots s → entry table t < jobs s → waits s (unfinished s v table t) (entry table t) ≡ false
  unfolding ready
  free t h l =
      not-true _ (and_right (unfinished s v table t (entry table t)) _ (and_right (leb (arrival s (entry table t)) t) _ (is_ready_lem t h l)))

  -- no job has more units than it takes
  pub edf_most : (j t : ℕ) → j < jobs s → t ≤ slots s → units table t j ≤ takes s v j
  edf_most j zero l h = rw (units_zero table j) (omega arith)
  edf_most j (suc t) l h = rw (← add-one t, units_step table j t) (go (ℕ_discrete (entry table t) j) (edf_most j t l (omega arith)))
    where
      go : Dec (entry table t ≡ j) → units table t j ≤ takes s v j → units table t j + one (eqb (entry table t) j) ≤ takes s v j
      go (yes p) ih = rw (eq-eqb (entry table t) j p) (let o = rw p at (owed t (omega arith) (omega arith)) in omega arith)
      go (no p) ih = rw (ne_eqb (entry table t) j p) (omega arith)
