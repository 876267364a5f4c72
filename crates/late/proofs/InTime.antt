-- Where no job is late: each unit stands before its deadline, each job has all its units, and no job stands before a predecessor.
-- Assumes nothing.
use Rattle.joblist.specs.Fields.{jobs, edges, slots, deadline, edge_from, edge_to, edge_in}
use Rattle.basics.proofs.Tests.{and_left, and_right, not_both}
use Rattle.basics.specs.Below.{any_below}
use lib.Dec.{eqb, ltb}
use borrow.Author.Tests.{eq-eqb, lt-ltb, ltb-false, eqb-true}
use native.Mathlib.Decide.{dec_lt}
use native.Mathlib.Omega.{arith}
use mathlib.Core.Bool.{Bool, true, false, cond, ◌&&◌}
use mathlib.Core.List.{List}
use mathlib.Core.Path.{◌≡◌, refl}
use Prim.Native.Nat.{ℕ, ◌+◌, ◌≤◌, ◌<◌}
use Rattle.late.specs.Table.{entry, units, waits}
use Rattle.std.specs.Prelude.{Ok}
use Rattle.std.specs.Result.{result_and}
use Rattle.late.specs.Late.{at, late_at, takes, unfinished, chosen, late_in, late_answer}
use Rattle.basics.proofs.Below.{any_found, any_hit}
use Rattle.basics.proofs.Turns.{turns_each}
use Rattle.late.proofs.Lateness.{both_ok}
use Rattle.late.proofs.EdfTable.{units_later, owed, free, edf_most}

any_miss : (f : ℕ → Bool) (n i : ℕ) → any_below f n ≡ false → i < n → f i ≡ false
any_miss f n i h l = go (f i) refl
  where
    go : (b : Bool) → f i ≡ b → f i ≡ false
    go true e = absurd (not_both (any_hit f n i l e) h)
    go false e = e

and_not : (x y : Bool) → x ≡ true → (x && y) ≡ false → y ≡ false
and_not true y p h = h
and_not false y p h = absurd (not_both p refl)

module _ (s : List ℕ) (v : ℕ) (few : jobs s ≤ 254) (table : List ℕ) (Chosen-at : (x : ℕ) → x < slots s → entry table x ≡ chosen s v table x) where
  -- a successor's slot is later
  pub order : (t x : ℕ) → t < slots s → x ≤ t → entry table t < jobs s → entry table x < jobs s → edge_in s (jobs s) (edges s) (entry table t) (entry table x) ≡ true → ⊥
  unfolding edge_in waits unfinished
  order t x h l ht hx e =
      let g = any_found _ (edges s) e in
      let b = and_left (eqb (edge_from s (jobs s) g.at) (entry table t)) _ g.holds in
      let c = and_right (eqb (edge_from s (jobs s) g.at) (entry table t)) _ g.holds in
      let m = any_miss _ (edges s) g.at (free s v few table Chosen-at x (omega arith) hx) g.below in
      let p = edge_from s (jobs s) g.at in
      let u = ltb-false (units table x p) (takes s v p) (and_not (eqb (edge_to s (jobs s) g.at) (entry table x)) (ltb (units table x p) (takes s v p)) c m) in
      let w = rw (eqb-true p (entry table t) b) at u in
      omega (arith, owed s v few table Chosen-at t h ht, units_later table (entry table t) x t l)

  module _ (fine : late_answer s v table ≡ Ok tt) where
    -- at the opening of its deadline a job has all its units
    pub done_by : (j : ℕ) → j < jobs s → deadline s j ≤ slots s → takes s v j ≤ units table (deadline s j) j
    unfolding late_answer late_at unfinished
    done_by j l d =
        let a = turns_each result_and (Ok tt) both_ok (late_in s v table) (slots s + 1) (deadline s j) fine (omega arith) in
        let b = turns_each result_and (Ok tt) both_ok _ (jobs s) j a l in
        go (dec_lt (units table (deadline s j) j) (takes s v j)) b
      where
        go : Dec (units table (deadline s j) j < takes s v j)
            → cond (eqb (deadline s j) (deadline s j) && ltb (units table (deadline s j) j) (takes s v j)) (at (deadline s j) j) (Ok tt) ≡ Ok tt
            → takes s v j ≤ units table (deadline s j) j
        go (yes p) q =
            let w = rw (eq-eqb (deadline s j) (deadline s j) refl, lt-ltb _ _ p) at q in
            let z : ◌≡◌ {A = ℕ} 0 1 = cc in
            absurd (omega arith)
        go (no p) q = omega arith

    -- each unit stands before its deadline
    pub in_time_lem : (t : ℕ) → t < slots s → entry table t < jobs s → t < deadline s (entry table t)
    in_time_lem t h l = go (dec_lt t (deadline s (entry table t)))
      where
        go : Dec (t < deadline s (entry table t)) → t < deadline s (entry table t)
        go (yes p) = p
        go (no p) =
            absurd
            (omega
            (arith, done_by (entry table t) l (omega arith), owed s v few table Chosen-at t h l, units_later table (entry table t) (deadline s (entry table t)) t (omega arith)))

    -- each job has exactly the units that it takes
    pub edf_exact : (j : ℕ) → j < jobs s → deadline s j ≤ slots s → units table (slots s) j ≡ takes s v j
    edf_exact j l d =
        let a = done_by j l d in
        let b = units_later table j (deadline s j) (slots s) d in
        let c = edf_most s v few table Chosen-at j (slots s) l (omega arith) in
        omega arith
