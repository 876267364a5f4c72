-- The first units: as many of each job as its ordinary budget, so that both late tables together have CLO units of each job.
-- Assumes nothing.
use Rattle.joblist.specs.Accepted.{Accepted}
use Rattle.joblist.specs.Fields.{jobs, slots, ordinary, level}
use Rattle.basics.specs.Limits.{Limits}
use Rattle.basics.specs.Marks.{idle}
use lib.Dec.{eqb, ltb}
use lib.Seq.{get_or-set_same, get_or-set_other}
use lib.ListN.{length, set, length-replicate}
use borrow.Author.Tests.{eq-eqb, ne_eqb, lt-ltb, ltb-true, ltb-false}
use native.Mathlib.Decide.{ℕ_discrete}
use native.Mathlib.Omega.{arith}
use native.Mathlib.Numerals.{add-one}
use mathlib.Core.Bool.{Bool, true, false, cond, ◌&&◌}
use mathlib.Core.List.{List}
use mathlib.Core.Path.{◌≡◌, refl, ap, ap₂, ◌∙◌}
use Prim.Native.Nat.{ℕ, zero, suc, ◌+◌, ◌≤◌, ◌<◌, min}
use Rattle.late.specs.Table.{entry, units, all_idle, held}
use Rattle.std.specs.Prelude.{Ok}
use Rattle.late.specs.Late.{late_table, first_unit, first_units, late_of, takes, tlo, thi}
use Rattle.late.specs.Meaning.{FirstOfEach}
use Rattle.late.proofs.Units.{one, units_step, units_zero}
use Rattle.late.proofs.Moving.{late_long}
use Rattle.late.proofs.First.{first_long}
use Rattle.late.proofs.Meaning.{late_table_lem}

module _ (s table : List ℕ) (few : jobs s ≤ 254) where
  first_at : (t x : ℕ) → x < t → t ≤ length table → entry (first_units s table t) x ≡ first_unit s table x
  unfolding first_units
  first_at zero x h l = absurd (omega arith)
  first_at (suc t) x h l = go (ℕ_discrete x t) (λ k. first_at t x k (omega arith))
    where
      go : Dec (x ≡ t) → (x < t → entry (first_units s table t) x ≡ first_unit s table x) → entry (set (first_units s table t) t (first_unit s table t)) x ≡ first_unit s table x
      go (yes p) r = rw p (get_or-set_same (first_units s table t) t (first_unit s table t) 0 (rw (first_long s table t) (omega arith)))
      go (no p) r = get_or-set_other (first_units s table t) t x (first_unit s table t) 0 p ∙ r (omega arith)

  first_same : (x : ℕ) → first_unit s table x < jobs s → first_unit s table x ≡ entry table x
  unfolding first_unit
  first_same x l = go (held s table x && ltb (units table x (entry table x)) (ordinary s (entry table x))) l
    where
      go : (b : Bool) → cond b (entry table x) idle < jobs s → cond b (entry table x) idle ≡ entry table x
      go true l = refl
      go false l = absurd (omega arith)

  module _ (j : ℕ) (l : j < jobs s) where
    -- whether the unit of slot t is one of the first of job j
    first_one : (t : ℕ) → one (eqb (first_unit s table t) j) + min (units table t j) (ordinary s j) ≡ min (units table t j + one (eqb (entry table t) j)) (ordinary s j)
    unfolding first_unit
    first_one t = go (ℕ_discrete (entry table t) j)
      where
        off : one (eqb idle j) ≡ 0
        off = rw (ne_eqb idle j (λ p. omega arith))

        few_yet : (b : Bool) → ltb (units table t j) (ordinary s j) ≡ b → one (eqb (cond b j idle) j) + min (units table t j) (ordinary s j) ≡ min (units table t j + 1) (ordinary s j)
        few_yet true e = rw (eq-eqb j j refl) (omega (arith, ltb-true (units table t j) (ordinary s j) e))
        few_yet false e = rw off (omega (arith, ltb-false (units table t j) (ordinary s j) e))

        skip : (b : Bool) → ¬ (entry table t ≡ j) → one (eqb (cond b (entry table t) idle) j) ≡ 0
        skip true p = rw (ne_eqb (entry table t) j p)
        skip false p = off

        go : Dec (entry table t ≡ j)
            → one (eqb (cond (held s table t && ltb (units table t (entry table t)) (ordinary s (entry table t))) (entry table t) idle) j) + min (units table t j) (ordinary s j)
            ≡ min (units table t j + one (eqb (entry table t) j)) (ordinary s j)
        go (yes p) = rw (p, lt-ltb j (jobs s) l, eq-eqb j j refl) (few_yet _ refl)
        go (no p) =
            rw (skip (held s table t && ltb (units table t (entry table t)) (ordinary s (entry table t))) p, ne_eqb (entry table t) j p) (omega arith)

    first_units_lem : (n t : ℕ) → t ≤ n → n ≤ length table → units (first_units s table n) t j ≡ min (units table t j) (ordinary s j)
    first_units_lem n zero h i = rw (units_zero (first_units s table n) j, units_zero table j) (omega arith)
    first_units_lem n (suc t) h i =
        rw (← add-one t, units_step (first_units s table n) j t, units_step table j t, first_at n t (omega arith) i, first_units_lem n t (omega arith) i)
        (omega (arith, first_one t))

module _ (lim : Limits) (s : List ℕ) (acc : Accepted lim s) (few : jobs s ≤ 254) (j : ℕ) (l : j < jobs s) where
  pub tlo_units : late_of s 0 ≡ Ok tt → units (tlo s) (slots s) j ≡ takes s 0 j
  unfolding tlo
  tlo_units fine = (late_table_lem lim s acc few 0 fine).exact j l

  pub thi_units : late_of s 1 ≡ Ok tt → units (thi s) (slots s) j ≡ min (takes s 1 j) (ordinary s j)
  unfolding thi
  thi_units fine =
      first_units_lem s (late_table s 1 (all_idle s)) few j l (slots s) (slots s) (omega arith) (omega (arith, late_long s 1 (all_idle s), length-replicate (slots s) idle))
      ∙ ap (λ k. min k (ordinary s j)) ((late_table_lem lim s acc few 1 fine).exact j l)

  -- a job has its units in the one or the other
  both_levels : takes s 0 j + min (takes s 1 j) (ordinary s j) ≡ ordinary s j
  unfolding takes
  both_levels = go (ℕ_discrete (level s j) 0)
    where
      go : Dec (level s j ≡ 0) → takes s 0 j + min (takes s 1 j) (ordinary s j) ≡ ordinary s j
      go (yes p) = rw (takes, p) (omega arith)
      go (no p) =
          let g = acc.job j l in
          let e : level s j ≡ 1 = omega arith in
          rw (takes, e) (omega arith)

  pub late_units : late_of s 0 ≡ Ok tt → late_of s 1 ≡ Ok tt → units (tlo s) (slots s) j + units (thi s) (slots s) j ≡ ordinary s j
  late_units a b = ap₂ ◌+◌ (tlo_units a) (thi_units b) ∙ both_levels

-- THI keeps the first CLO units of each high job
pub thi_first : (s : List ℕ) → jobs s ≤ 254 → FirstOfEach s
unfolding thi
thi_first s few = record { same = λ x h e. same x h (ltb-true _ _ e); first = λ t j h l. first_units_lem s table few j l (slots s) t h long }
  where
    table : List ℕ
    table = late_table s 1 (all_idle s)

    long : slots s ≤ length table
    long = omega (arith, late_long s 1 (all_idle s), length-replicate (slots s) idle)

    same : (x : ℕ) → x < slots s → entry (first_units s table (slots s)) x < jobs s → entry (first_units s table (slots s)) x ≡ entry table x
    same x h l = first_at s table few (slots s) x h long ∙ first_same s table few x (rw (first_at s table few (slots s) x h long) at l)
