-- Table LO names each job exactly CLO times: each unit taken out of a late table is placed, and in the end none is left.
-- Assumes nothing.
use Rattle.joblist.specs.Accepted.{Accepted}
use Rattle.basics.specs.Limits.{Limits}
use Rattle.joblist.specs.Fields.{jobs, slots, ordinary}
use Rattle.basics.specs.Find.{lowest}
use Rattle.basics.specs.Marks.{idle}
use lib.Dec.{eqb, ltb}
use lib.Seq.{get_or-set_same, get_or-set_other}
use lib.ListN.{length, set, length-set, length-replicate}
use borrow.Author.Tests.{ne_eqb, ltb-true, ltb-false}
use native.Mathlib.Decide.{ℕ_discrete}
use native.Mathlib.Omega.{arith}
use native.Mathlib.Numerals.{add-one}
use mathlib.Core.Bool.{Bool, true, false, cond}
use mathlib.Core.List.{List}
use mathlib.Core.Logic.{◌⊎◌, inl, inr}
use mathlib.Core.Path.{◌≡◌, refl, sym, ap₂, ◌∙◌}
use Prim.Native.Nat.{ℕ, zero, suc, ◌+◌, ◌≤◌, ◌<◌}
use Rattle.late.specs.Table.{entry, units, all_idle, held, waits}
use Rattle.late.specs.Late.{late_of}
use Rattle.late.proofs.Units.{one, units_step, units_zero, units_set, units_set_at}
use Rattle.late.proofs.First.{tlo_long, thi_long}
use Rattle.late.proofs.Kept.{late_units}
use Rattle.basics.proofs.Turns.{turns_each}
use Rattle.late.proofs.Lateness.{both_ok}
use Rattle.std.specs.Prelude.{Some, None, Ok, Err}
use Rattle.std.specs.Result.{result_and}
use Rattle.lotable.specs.declared.Source.TheVariants.{Low, High}
use Rattle.lotable.specs.declared.Clash.TheVariants.{BothAt, EarlyAt}
use Rattle.lotable.specs.TableLo.{Pick, clash, take, Tables, fits, later, pick, unplaced, pick_at, tables_at, clash_at, clash_in, begins, clash_of, table_lo}
use Rattle.lotable.proofs.Laws.{tables_zero, tables_step}

-- a slot that is filled
filled : (table : List ℕ) (t v j : ℕ) → t < length table → units (set table t v) (t + 1) j ≡ units table t j + one (eqb v j)
filled table t v j h =
    units_step (set table t v) j t ∙ ap₂ (λ m x. m + one (eqb x j)) (units_set_at table t v j) (get_or-set_same table t v 0 h)

-- no unit where no slot has the job
none_left : (table : List ℕ) (n j t : ℕ) → j < n → ((x : ℕ) → x < t → n ≤ entry table x) → units table t j ≡ 0
none_left table n j zero l h = units_zero table j
none_left table n j (suc t) l h =
    rw (← add-one t, units_step table j t, none_left table n j t l (λ x i. h x (omega arith)), ne_eqb (entry table t) j (λ p. omega (arith, h t (omega arith))))

module _ (s : List ℕ) (few : jobs s ≤ 254) where
  -- at slot t: all units are placed or left, and the slots below t are empty in both late tables
  record Going (p : Tables) (t : ℕ) : Type 0 where
    lows : length p.low ≡ slots s
    highs : length p.high ≡ slots s
    los : length p.lo ≡ slots s
    total : (j : ℕ) → j < jobs s → units p.lo t j + units p.low (slots s) j + units p.high (slots s) j ≡ ordinary s j
    low_past : (x : ℕ) → x < t → jobs s ≤ entry p.low x
    high_past : (x : ℕ) → x < t → jobs s ≤ entry p.high x

  off : (j : ℕ) → j < jobs s → one (eqb idle j) ≡ 0
  off j l = rw (ne_eqb idle j (λ p. omega arith))

  -- a late table whose slot k is cleared: empty to slot t
  past : (table : List ℕ) (k t : ℕ) → length table ≡ slots s → k < slots s → ((x : ℕ) → x < t → jobs s ≤ entry table x) → (k ≡ t) ⊎ (jobs s ≤ entry table t)
      → (x : ℕ) → x < t + 1 → jobs s ≤ entry (set table k idle) x
  past table k t n h before at x i = go (ℕ_discrete x k) (ℕ_discrete x t)
    where
      go : Dec (x ≡ k) → Dec (x ≡ t) → jobs s ≤ entry (set table k idle) x
      go (yes p) d = rw (p, get_or-set_same table k idle 0 (omega arith)) (omega arith)
      go (no p) (no q) = rw (get_or-set_other table k x idle 0 p) (before x (omega arith))
      go (no p) (yes q) = elim at [ inl e ↦ absurd (p (q ∙ sym e)) | inr e ↦ rw (get_or-set_other table k x idle 0 p, q) e ]

  stays : (table : List ℕ) (t : ℕ) → ((x : ℕ) → x < t → jobs s ≤ entry table x) → jobs s ≤ entry table t → (x : ℕ) → x < t + 1 → jobs s ≤ entry table x
  stays table t before at x i = go (ℕ_discrete x t)
    where
      go : Dec (x ≡ t) → jobs s ≤ entry table x
      go (yes q) = rw q at
      go (no q) = before x (omega arith)

  module _ (p : Tables) (t : ℕ) (g : Going p t) (h : t < slots s) where
    by_low : (k : ℕ) → k < slots s → (k ≡ t) ⊎ (jobs s ≤ entry p.low t) → jobs s ≤ entry p.high t → Going (take p t (Ok (Some (Low k)))) (t + 1)
    by_low k i at high-at =
        record {
          lows = length-set p.low k idle ∙ g.lows;
          highs = g.highs;
          los = length-set p.lo t (entry p.low k) ∙ g.los;
          total = λ j l.
              let a = units_set p.low k idle j (slots s) i (omega (arith, g.lows)) in
              omega (arith, g.total j l, a, off j l, filled p.lo t (entry p.low k) j (omega (arith, g.los)));
          low_past = past p.low k t g.lows i g.low_past at;
          high_past = stays p.high t g.high_past high-at;
        }

    by_high : (k : ℕ) → k < slots s → (k ≡ t) ⊎ (jobs s ≤ entry p.high t) → jobs s ≤ entry p.low t → Going (take p t (Ok (Some (High k)))) (t + 1)
    by_high k i at low-at =
        record {
          lows = g.lows;
          highs = length-set p.high k idle ∙ g.highs;
          los = length-set p.lo t (entry p.high k) ∙ g.los;
          total = λ j l.
              let a = units_set p.high k idle j (slots s) i (omega (arith, g.highs)) in
              omega (arith, g.total j l, a, off j l, filled p.lo t (entry p.high k) j (omega (arith, g.los)));
          low_past = stays p.low t g.low_past low-at;
          high_past = past p.high k t g.highs i g.high_past at;
        }

    by_idle : jobs s ≤ entry p.low t → jobs s ≤ entry p.high t → Going (take p t (Ok None)) (t + 1)
    by_idle low-at high-at =
        record {
          lows = g.lows;
          highs = g.highs;
          los = length-set p.lo t idle ∙ g.los;
          total = λ j l. omega (arith, g.total j l, off j l, filled p.lo t idle j (omega (arith, g.los)));
          low_past = stays p.low t g.low_past low-at;
          high_past = stays p.high t g.high_past high-at;
        }

    by_later : (waiting : ℕ → Bool) → jobs s ≤ entry p.low t → jobs s ≤ entry p.high t → Going (take p t (Ok (later s waiting p.low p.high t))) (t + 1)
    unfolding later
    by_later waiting low-at high-at = go (ltb a (slots s)) refl (ltb b (slots s)) refl
      where
        a : ℕ
        a = lowest (fits s waiting p.low t) (slots s) (t + 1)

        b : ℕ
        b = lowest (fits s waiting p.high t) (slots s) (t + 1)

        go : (x : Bool) → ltb a (slots s) ≡ x → (y : Bool) → ltb b (slots s) ≡ y → Going (take p t (Ok (cond x (Some (Low a)) (cond y (Some (High b)) None)))) (t + 1)
        go true e y f = by_low a (ltb-true a (slots s) e) (inr low-at) high-at
        go false e true f = by_high b (ltb-true b (slots s) f) (inr high-at) low-at
        go false e false f = by_idle low-at high-at

    going_next : clash (pick_at s p t) ≡ Ok tt → Going (take p t (pick_at s p t)) (t + 1)
    unfolding pick
    going_next = go (held s p.high t) refl (held s p.low t) refl (waiting (entry p.low t))
      where
        waiting : ℕ → Bool
        waiting = waits s (unplaced s p.lo t)

        which : Bool → Bool → Bool → Pick
        which x y z =
            cond x (cond y (Err (BothAt t)) (Ok (Some (High t)))) (cond y (cond z (Err (EarlyAt t)) (Ok (Some (Low t)))) (Ok (later s waiting p.low p.high t)))

        go : (x : Bool) → held s p.high t ≡ x → (y : Bool) → held s p.low t ≡ y → (z : Bool) → clash (which x y z) ≡ Ok tt → Going (take p t (which x y z)) (t + 1)
        go true e true f z c = absurd (cc)
        go true e false f z c = by_high t h (inl refl) (ltb-false _ _ f)
        go false e true f true c = absurd (cc)
        go false e true f false c = by_low t h (inl refl) (ltb-false _ _ e)
        go false e false f z c = by_later waiting (ltb-false _ _ f) (ltb-false _ _ e)

module _ (lim : Limits) (s : List ℕ) (acc : Accepted lim s) (few : jobs s ≤ 254) (low-fine : late_of s 0 ≡ Ok tt) (high-fine : late_of s 1 ≡ Ok tt) (fine : clash_of s ≡ Ok tt) where
  going : (t : ℕ) → t ≤ slots s → Going s few (tables_at s (begins s) t) t
  unfolding clash_of clash_in
  going zero h =
      rw (tables_zero s (begins s))
      (record {
        lows = tlo_long s;
        highs = thi_long s;
        los = length-replicate (slots s) idle;
        total = λ j l. rw (units_zero (all_idle s) j) (omega (arith, late_units lim s acc few j l low-fine high-fine));
        low_past = λ x i. absurd (omega arith);
        high_past = λ x i. absurd (omega arith);
      })
  going (suc t) h =
      rw (← add-one t, tables_step s (begins s) t)
      (going_next s few (tables_at s (begins s) t) t (going t (omega arith)) (omega arith) (turns_each result_and (Ok tt) both_ok (clash_at s (begins s)) (slots s) t fine (omega arith)))

  -- table LO names each job exactly CLO times
  pub lo_exact : (j : ℕ) → j < jobs s → units (table_lo s) (slots s) j ≡ ordinary s j
  unfolding table_lo
  lo_exact j l =
      let g = going (slots s) (omega arith) in
      let p = tables_at s (begins s) (slots s) in
      let a = none_left p.low (jobs s) j (slots s) l g.low_past in
      let b = none_left p.high (jobs s) j (slots s) l g.high_past in
      omega (arith, g.total j l)
