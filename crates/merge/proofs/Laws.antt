-- Laws of a build's answer step by step.
-- Assumes nothing.
use Rattle.basics.specs.Marks.{idle}
use Rattle.joblist.specs.Fields.{jobs, edges, slots}
use Rattle.basics.specs.Limits.{Limits}
use borrow.Author.Tests.{le-leb, lt-leb}
use Prim.Native.Nat.{ℕ, ◌<◌, ◌≤◌, zero, suc}
use mathlib.Core.Path.{◌≡◌, refl, sym, ap, ap₂, ◌∙◌}
use mathlib.Core.List.{List, ◌∷◌}
use native.Mathlib.Omega.{arith}
use lib.ListN.{length, length-replicate, take, replicate}
use Rattle.late.specs.Table.{all_idle}
use Rattle.std.specs.Result.{result_and}
use Rattle.basics.specs.Chain.{◌⨾◌}
use Rattle.late.specs.Late.{edf_at, late_answer, late_table, first_units, late_of, tlo, thi}
use Rattle.late.specs.declared.Late.{Late}
use Rattle.lotable.specs.TableLo.{Tables, begins, clash_of, table_lo}
use Rattle.lotable.proofs.Laws.{lo_long}
use Rattle.hitable.specs.TableHi.{table_hi}
use Rattle.hitable.proofs.Laws.{hi_long}
use Rattle.lotable.specs.declared.Clash.{Clash}
use Rattle.std.specs.Prelude.{Result, Ok, Err}
use Rattle.basics.specs.Put.{put}
use Rattle.joblist.specs.Answer.{list_answer}
use Rattle.joblist.specs.declared.Why.{Why}
use Rattle.verdict.specs.Answer.{check_of}
use Rattle.verdict.specs.declared.Objection.{Objection}
use Rattle.planfile.specs.Plan.{plan_bytes}
use Rattle.merge.specs.declared.BuildWhy.{BuildWhy}
use Rattle.merge.specs.declared.BuildWhy.TheVariants.{OfList, Room, LowLate, HighLate, Rejected}
use Rattle.merge.specs.Build.{of_late, of_clash, pair_of, built_lo, built_hi, merge_plan, build_of, filled, out_after}

-- a pair that is made had no clash
pub made_fine : (x : Result (Unit {0}) Clash) → of_clash x ≡ Ok tt → x ≡ Ok tt
made_fine (Ok u) e = refl
made_fine (Err c) e = absurd (cc)

-- 20 and 21, each from its own late table
abbrev pub late_why : (ℕ → ℕ → BuildWhy) → Result (Unit {0}) Late → Result (Unit {0}) BuildWhy
late_why f (Ok u) = Ok tt
late_why f (Err e) = Err (f e.slot e.job)

pub late_both : (x y : Result (Unit {0}) Late) → result_and (late_why LowLate x) (late_why HighLate y) ≡ of_late x y
late_both (Err e) y = refl
late_both (Ok u) (Err e) = refl
late_both (Ok u) (Ok v) = refl

-- both late tables are made in idle ones
pub late_made : (s low high : List ℕ) (x y : Result (Unit {0}) Late) (a b r : Result (Unit {0}) BuildWhy) → low ≡ all_idle s → high ≡ all_idle s
    → x ≡ late_answer s 0 (edf_at s 0 low (slots s)) → y ≡ late_answer s 1 (edf_at s 1 high (slots s))
    → a ≡ late_why LowLate x → b ≡ late_why HighLate y → r ≡ result_and a b → r ≡ of_late (late_of s 0) (late_of s 1)
unfolding late_of
late_made s low high x y a b r i j p q m n e =
    e
    ∙ ap₂ result_and (m ∙ ap (late_why LowLate) (p ∙ ap (λ (t : List ℕ). late_answer s 0 (edf_at s 0 t (slots s))) i)) (n ∙ ap (late_why HighLate) (q ∙ ap (λ (t : List ℕ). late_answer s 1 (edf_at s 1 t (slots s))) j))
    ∙ late_both (late_of s 0) (late_of s 1)

-- THI as first made
pub thi_made : (s high made kept : List ℕ) → high ≡ all_idle s → made ≡ late_table s 1 high → kept ≡ first_units s made (slots s) → kept ≡ thi s
unfolding thi
thi_made s high made kept i p q =
    q ∙ ap (λ (t : List ℕ). first_units s t (slots s)) (p ∙ ap (late_table s 1) i)

-- what table LO begins with
pub begins_are : (s low made left lo : List ℕ) → low ≡ all_idle s → made ≡ late_table s 0 low → left ≡ thi s → lo ≡ all_idle s
    → ◌≡◌ {A = Tables} (record { low = made; high = left; lo = lo }) (begins s)
unfolding tlo
begins_are s low made left lo i p q j = λ z. record { low = (p ∙ ap (late_table s 0) i) z; high = q z; lo = j z }

-- the pair from its parts
module _ (s : List ℕ) where
  pub pair_late : (w : BuildWhy) → of_late (late_of s 0) (late_of s 1) ≡ Err w → pair_of s ≡ Err w
  unfolding pair_of
  pair_late w e = ap (λ (a : Result (Unit {0}) BuildWhy). a ⨾ of_clash (clash_of s)) e

  pub pair_clash : of_late (late_of s 0) (late_of s 1) ≡ Ok tt → (a : Result (Unit {0}) Clash) → clash_of s ≡ a → pair_of s ≡ of_clash a
  unfolding pair_of
  pair_clash e a h = ap (λ (x : Result (Unit {0}) BuildWhy). x ⨾ of_clash (clash_of s)) e ∙ ap of_clash h

-- a build's answer step by step, and the buffer after it
module _ (lim : Limits) (s out : List ℕ) where
  -- what the call promises of an answer r and the buffer at exit
  abbrev pub Promised : Result ℕ BuildWhy → List ℕ → Type 0
  Promised r after = (r ≡ build_of lim s (length out)) × (after ≡ out_after lim s out)

  promised : (r : Result ℕ BuildWhy) → r ≡ build_of lim s (length out) → Promised r (filled r (merge_plan s) out)
  unfolding out_after
  promised r e = (e, ap (λ x. filled x (merge_plan s) out) e)

  pub refused_list : (w : Why) → list_answer lim s ≡ Err w → Promised (Err (OfList w)) out
  unfolding build_of
  refused_list w e = promised (Err (OfList w)) (sym (rw (build_of, e)))

  module _ (good : list_answer lim s ≡ Ok tt) where
    pub refused_room : length out < plan_bytes (jobs s) (edges s) (slots s) → Promised (Err Room) out
    unfolding build_of
    refused_room h = promised (Err Room) (sym (rw (build_of, good, lt-leb _ _ h)))

    module _ (room : plan_bytes (jobs s) (edges s) (slots s) ≤ length out) where
      pub refused_pair : (w : BuildWhy) → pair_of s ≡ Err w → Promised (Err w) out
      unfolding build_of
      refused_pair w e = promised (Err w) (sym (rw (build_of, good, le-leb _ _ room, e)))

      module _ (made : pair_of s ≡ Ok tt) where
        pub refused_check : (w : Objection) → check_of lim s (built_lo s) (built_hi s) ≡ Err w → Promised (Err (Rejected (Err w))) out
        unfolding build_of
        refused_check w e = promised (Err (Rejected (Err w))) (sym (rw (build_of, good, le-leb _ _ room, made, e)))

        pub built : check_of lim s (built_lo s) (built_hi s) ≡ Ok tt → Promised (Ok (length (merge_plan s))) (put out 0 (merge_plan s))
        unfolding build_of
        built e = promised (Ok (length (merge_plan s))) (sym (rw (build_of, good, le-leb _ _ room, made, e)))

-- the built tables have L slots
pub built_lo_long : (s : List ℕ) → length (built_lo s) ≡ slots s
unfolding table_lo
built_lo_long s = lo_long s (begins s) (slots s) ∙ length-replicate (slots s) idle

pub built_hi_long : (s : List ℕ) → length (built_hi s) ≡ slots s
unfolding built_hi table_hi
built_hi_long s = hi_long s (table_lo s) (thi s) (all_idle s) (slots s) ∙ length-replicate (slots s) idle

-- the front of idle room is an idle table
pub idle_front : (l k : ℕ) → l ≤ k → take l (replicate k idle) ≡ replicate l idle
idle_front zero k h = refl
idle_front (suc l) zero h = absurd (omega arith)
idle_front (suc l) (suc k) h = ap (λ x. idle ∷ x) (idle_front l k (omega arith))

pub idle_front_long : (l k : ℕ) → l ≤ k → l ≡ length (take l (replicate k idle))
idle_front_long l k h = sym (ap length (idle_front l k h) ∙ length-replicate l idle)
