-- Laws of the first units: one slot more.
-- Assumes nothing.
use Prim.Native.Nat.{ℕ, zero, suc, ◌+◌, ◌≤◌, ◌<◌}
use mathlib.Core.Path.{◌≡◌, refl, sym, ap, ◌∙◌}
use mathlib.Core.List.{List}
use mathlib.Core.Bool.{Bool, true, false, cond, ◌&&◌}
use native.Mathlib.Numerals.{add-one}
use native.Mathlib.Omega.{arith}
use lib.ListN.{length, set, length-set, length-replicate}
use lib.Seq.{get_or-set_other, set-get_or}
use native.Mathlib.Decide.{dec_lt}
use borrow.Author.Tests.{le-ltb}
use lib.Dec.{ltb}
use Rattle.basics.specs.Units.{units_of}
use Rattle.joblist.specs.Fields.{jobs, slots, ordinary}
use Rattle.basics.specs.Marks.{idle}
use Rattle.late.specs.Table.{entry, units, all_idle}
use Rattle.late.specs.Late.{late_table, first_unit, first_units, tlo, thi}
use Rattle.late.proofs.Moving.{late_long}
use Rattle.late.proofs.Units.{Counted}

module _ (s table : List ℕ) where
  pub first_zero : first_units s table 0 ≡ table
  unfolding first_units
  first_zero = refl

  pub first_step : (t : ℕ) → first_units s table (t + 1) ≡ set (first_units s table t) t (first_unit s table t)
  unfolding first_units
  first_step t = rw add-one

  pub first_long : (t : ℕ) → length (first_units s table t) ≡ length table
  unfolding first_units
  first_long zero = refl
  first_long (suc t) = length-set (first_units s table t) t _ ∙ first_long t

  -- from slot t on nothing has changed
  pub first_past : (t x : ℕ) → t ≤ x → entry (first_units s table t) x ≡ entry table x
  unfolding first_units
  first_past zero x h = refl
  first_past (suc t) x h =
      get_or-set_other (first_units s table t) t x (first_unit s table t) 0 (λ p. omega arith) ∙ first_past t x (omega arith)

  -- the test with the units counted, of the entry j of slot t
  first_test : (had : List ℕ) (t j : ℕ) → Counted (jobs s) had table t → j ≡ entry table t → (b : Bool)
      → (ltb j (jobs s) && ltb (units_of had j) (ordinary s j)) ≡ b → first_unit s table t ≡ cond b j idle
  unfolding first_unit
  first_test had t j c e b h = rw (← e) (ap (λ x. cond x j idle) (go (dec_lt j (jobs s)) ∙ h))
    where
      go : Dec (j < jobs s) → (ltb j (jobs s) && ltb (units table t j) (ordinary s j)) ≡ (ltb j (jobs s) && ltb (units_of had j) (ordinary s j))
      go (yes l) = rw (c.count j l)
      go (no l) = rw (le-ltb j (jobs s) (omega arith))

  module _ (had : List ℕ) (t j : ℕ) (c : Counted (jobs s) had table t) (e : j ≡ entry (first_units s table t) t) where
    same : j ≡ entry table t
    same = e ∙ first_past t t (omega arith)

    -- the unit stays
    pub first_stays : (ltb j (jobs s) && ltb (units_of had j) (ordinary s j)) ≡ true → first_units s table t ≡ first_units s table (t + 1)
    first_stays h =
        sym (first_step t ∙ ap (set (first_units s table t) t) (first_test had t j c same true h ∙ e) ∙ set-get_or (first_units s table t) t 0)

    -- the unit goes
    pub first_goes : (ltb j (jobs s) && ltb (units_of had j) (ordinary s j)) ≡ false → set (first_units s table t) t idle ≡ first_units s table (t + 1)
    first_goes h = sym (first_step t ∙ ap (set (first_units s table t) t) (first_test had t j c same false h))

-- the late tables have L slots
pub tlo_long : (s : List ℕ) → length (tlo s) ≡ slots s
unfolding tlo
tlo_long s = late_long s 0 (all_idle s) ∙ length-replicate (slots s) idle

pub thi_long : (s : List ℕ) → length (thi s) ≡ slots s
unfolding thi
thi_long s = first_long s (late_table s 1 (all_idle s)) (slots s) ∙ late_long s 1 (all_idle s) ∙ length-replicate (slots s) idle
