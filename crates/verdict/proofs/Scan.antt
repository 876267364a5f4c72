-- One turn of the scan, as its loop takes it: a fault here, the last slot, and the next.
-- Assumes nothing.
use mathlib.Core.Bool.{Bool, ◌&&◌, cond, false, true}
use mathlib.Core.List.{List}
use mathlib.Core.Option.{Option, none}
use mathlib.Core.Path.{◌∙◌, ◌≡◌, ap, ap₂, refl, subst, sym}
use Prim.Native.Nat.{◌+◌, ◌-◌, ◌<◌, ◌≤◌, suc, zero, ℕ}
use native.Mathlib.Numerals.{add-one}
use native.Mathlib.Omega.{arith}
use borrow.Author.Tests.{le-ltb, lt-leb, ltb-true}
use lib.Dec.{eqb, leb, ltb}
use lib.ListN.{set}
use Rattle.basics.proofs.Find.{find_no}
use Rattle.basics.specs.Find.{find}
use Rattle.basics.specs.Units.{one_more, units_of}
use Rattle.frame.specs.Execution.{State, next_mode, outran, ready, runs, slot_with, state, step, switch_to, waits_for}
use Rattle.frame.specs.Jobs.{Frame}
use Rattle.frame.specs.Search.{fault_at, fault_of, late_job, owed, scan}
use Rattle.joblist.specs.Fields.{high, ordinary}
use Rattle.verdict.proofs.OneSlot.{runs_left}
use Rattle.verdict.proofs.Told.{told_found, told_then}
use Rattle.verdict.specs.Count.{entry_at}
use Rattle.verdict.specs.FrameOf.{frame_with}
use Rattle.verdict.specs.Inner.{Search, Steady, edge_at, square, told}
use Rattle.verdict.specs.declared.Fault.{Fault}
use Rattle.std.specs.Prelude.{Ok, Err}

-- one unit more, as the code writes it
pub more_set : (j : ℕ) (u : List ℕ) → one_more true j u ≡ set u j (units_of u j + 1)
unfolding one_more
more_set j u = rw (add-one (units_of u j))

-- the job that the mode's table names in a slot
pub named : (lo hi table : List ℕ) (m t j : ℕ) → table ≡ cond (eqb m 0) lo hi → j ≡ entry_at table t → j ≡ cond (eqb m 0) (entry_at lo t) (entry_at hi t)
named lo hi table m t j p q = q ∙ ap (λ (x : List ℕ). entry_at x t) p ∙ go (eqb m 0)
  where
    go : (b : Bool) → entry_at (cond b lo hi) t ≡ cond b (entry_at lo t) (entry_at hi t)
    go true = refl
    go false = refl

module _ (s : List ℕ) (n l : ℕ) (lo hi : List ℕ) (b : List Bool) (need : List ℕ) where
  abbrev F : Frame
  F = frame_with s n l lo hi (edge_at b)

  -- no mode comes after HI
  next_hi : (j : ℕ) → ordinary s j ≤ high s j → next_mode F j 1 ≡ none
  unfolding next_mode find
  next_hi j h =
      find_no (λ (m' : ℕ). ltb (F.budget j 1) (F.budget j m')) 1 0 (le-ltb _ _ h)
      ∙ find_no (λ (m' : ℕ). ltb (F.budget j 1) (F.budget j m')) 0 1 (le-ltb (high s j) (high s j) (omega arith))

  -- who needs CLO does not outrun it
  within : (m j u : ℕ) → m ≡ 0 → units_of need j ≡ ordinary s j → outran F (units_of need) m (suc u) j ≡ false
  unfolding outran
  within m j u z p = rw (z, p) (go (ltb (suc u) (ordinary s j)) refl)
    where
      go : (x : Bool) → ltb (suc u) (ordinary s j) ≡ x → (x && leb (ordinary s j) (suc u)) ≡ false
      go true q = lt-leb (ordinary s j) (suc u) (ltb-true _ _ q)
      go false q = refl

  -- a step that does not switch
  stays : (t m q : ℕ) (c u : List ℕ) (j : ℕ) → m ≤ 1 → Steady s n m need → j ≡ F.table m t
      → step F (units_of need) t (state m q c u) ≡ state m m c (one_more (runs (square s n b) (units_of need) t m u j) j u)
  unfolding step slot_with switch_to runs ready waits_for
  stays t m q c u j small steady at =
      subst (λ (y : ℕ). slot_with F (units_of need) t (state m q c u) y (runs F (units_of need) t m u y) ≡ state m m c (one_more (runs F (units_of need) t m u j) j u)) at (go (runs F (units_of need) t m u j) refl)
    where
      move : (m : ℕ) → m ≤ 1 → Steady s n m need → j < n → switch_to (outran F (units_of need) m (suc (units_of u j)) j) t m (next_mode F j m) (one_more true j u) c ≡ state m m c (one_more true j u)
      move zero small steady k =
          ap (λ (x : Bool). switch_to x t 0 (next_mode F j 0) (one_more true j u) c) (within 0 j (units_of u j) refl (steady.ordered refl j k))
      move (suc zero) small steady k =
          ap (λ (o : Option ℕ). switch_to (outran F (units_of need) 1 (suc (units_of u j)) j) t 1 o (one_more true j u) c) (next_hi j (steady.rising j k)) ∙ last (outran F (units_of need) 1 (suc (units_of u j)) j)
        where
          last : (x : Bool) → switch_to x t 1 none (one_more true j u) c ≡ state 1 1 c (one_more true j u)
          last true = refl
          last false = refl
      move (suc (suc m)) small steady k = absurd (omega arith)

      go : (r : Bool) → runs F (units_of need) t m u j ≡ r → slot_with F (units_of need) t (state m q c u) j r ≡ state m m c (one_more r j u)
      go false p = refl
      go true p = move m small steady (runs_left s n l lo hi (edge_at b) (units_of need) m u j t p).0

  fault_is : (t m q : ℕ) (c u : List ℕ) (j : ℕ) → j ≡ F.table m t → fault_of (square s n b) (units_of need) t (state m q c u) j ≡ fault_at F (units_of need) t (state m q c u)
  unfolding fault_at fault_of late_job owed waits_for
  fault_is t m q c u j at = ap (λ (y : ℕ). fault_of F (units_of need) t (state m q c u) y) at

  module _ (t m q : ℕ) (c u : List ℕ) (j : ℕ) (at : j ≡ F.table m t) (f : Search) (is : f ≡ told (fault_of (square s n b) (units_of need) t (state m q c u) j)) where
    f_at : f ≡ told (fault_at F (units_of need) t (state m q c u))
    f_at = is ∙ ap told (fault_is t m q c u j at)

    pub scan_found : (k : ℕ) (w : Fault) → f ≡ Err w → told (scan F (units_of need) k t (state m q c u)) ≡ Err w
    unfolding scan
    scan_found zero w h = sym f_at ∙ h
    scan_found (suc k) w h =
        told_found (fault_at F (units_of need) t (state m q c u)) (scan F (units_of need) k (suc t) (step F (units_of need) t (state m q c u))) w (sym f_at ∙ h)

    pub scan_last : l ≤ t → f ≡ Ok tt → told (scan F (units_of need) (l - t) t (state m q c u)) ≡ Ok tt
    unfolding scan
    scan_last h g =
        ap (λ (k : ℕ). told (scan F (units_of need) k t (state m q c u))) (let e : l - t ≡ 0 = omega arith in e) ∙ sym f_at ∙ g

    pub scan_next : t < l → f ≡ Ok tt → m ≤ 1 → Steady s n m need
        → scan F (units_of need) (l - t) t (state m q c u) ≡ scan F (units_of need) (l - (t + 1)) (t + 1) (state m m c (one_more (runs (square s n b) (units_of need) t m u j) j u))
    unfolding scan
    scan_next h g small steady =
        ap (λ (k : ℕ). scan F (units_of need) k t (state m q c u)) (let e : l - t ≡ suc (l - (t + 1)) = omega arith in e)
        ∙ told_then (fault_at F (units_of need) t (state m q c u)) (scan F (units_of need) (l - (t + 1)) (suc t) (step F (units_of need) t (state m q c u))) (sym f_at ∙ g)
        ∙ ap₂ (λ (y : ℕ) (z : State). scan F (units_of need) (l - (t + 1)) y z) (let e : suc t ≡ t + 1 = omega arith in e) (stays t m q c u j small steady at)
