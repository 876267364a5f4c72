-- What an answer of a build means: the theorems. Read specs/Meaning.antt beside them.
-- Assumes nothing.
use Rattle.joblist.proofs.Accepted.{accepted, list_length}
use mathlib.Core.Logic.{inl, inr}
use Rattle.joblist.specs.Fields.{jobs, edges, slots}
use Rattle.basics.specs.Limits.{Limits}
use lib.Dec.{leb}
use lib.ListN.{length, take, drop}
use borrow.Author.Tests.{leb-true}
use native.Mathlib.Omega.{arith}
use mathlib.Core.Bool.{Bool, true, false}
use mathlib.Core.List.{List}
use mathlib.Core.Path.{◌≡◌, refl, ap, sym, subst}
use Prim.Native.Nat.{◌^◌, ℕ, ◌≤◌, ◌<◌, ◌+◌}
use Rattle.basics.specs.Put.{put}
use Rattle.basics.proofs.Put.{take_put, drop_put}
use Rattle.joblist.specs.Answer.{list_answer}
use Rattle.std.specs.Prelude.{Result, Ok, Err}
use Rattle.basics.specs.Chain.{◌⨾◌, need}
use Rattle.joblist.specs.declared.Why.{Why}
use Rattle.lotable.specs.declared.Clash.TheVariants.{BothAt, EarlyAt}
use Rattle.verdict.specs.Answer.{Verdict, check_of}
use Rattle.verdict.specs.declared.Fault.{Fault}
use Rattle.verdict.specs.declared.Objection.TheVariants.{Bad}
use Rattle.verdict.proofs.Demand.{demand3}
use Rattle.verdict.proofs.Judged.{yes_good}
use Rattle.planfile.specs.Plan.{most_bytes, plan_of, plan_bytes}
use Rattle.planfile.proofs.Written.{plan_length}
use Rattle.planfile.proofs.ReadBack.{plan_reads}
use Rattle.late.specs.Late.{late_of}
use Rattle.late.specs.declared.Late.{Late}
use Rattle.lotable.specs.TableLo.{clash_of}
use Rattle.lotable.specs.declared.Clash.{Clash}
use Rattle.lotable.proofs.Exact.{lo_exact}
use Rattle.merge.specs.declared.BuildWhy.{BuildWhy}
use Rattle.merge.specs.declared.BuildWhy.TheVariants.{OfList, Room, LowLate, HighLate, Both, Early, Rejected}
use Rattle.merge.specs.Build.{of_late, of_clash, pair_of, built_lo, built_hi, merge_plan, of_list, of_check, build_of, filled, out_after}
use Rattle.merge.specs.Meaning.{Sound, Unsound}
use Rattle.merge.proofs.Laws.{made_fine, built_lo_long, built_hi_long}
use Rattle.merge.proofs.Entries.{good_lo, good_hi}

-- a refusal changes no byte
pub refused_same : (lim : Limits) (s out : List ℕ) (w : BuildWhy) → build_of lim s (length out) ≡ Err w → out_after lim s out ≡ out
unfolding out_after
refused_same lim s out w e = ap (λ x. filled x (merge_plan s) out) e

-- a pair that is made: no job was late, and nothing clashed
record Clear (s : List ℕ) : Type 0 where
  low : late_of s 0 ≡ Ok tt
  high : late_of s 1 ≡ Ok tt
  clashes : clash_of s ≡ Ok tt

clear : (s : List ℕ) → pair_of s ≡ Ok tt → Clear s
unfolding pair_of
clear s = go (late_of s 0) refl (late_of s 1) refl
  where
    go : (x : Result (Unit {0}) Late) → late_of s 0 ≡ x → (y : Result (Unit {0}) Late) → late_of s 1 ≡ y → (of_late x y ⨾ of_clash (clash_of s)) ≡ Ok tt → Clear s
    go (Err l) e y f h = absurd (cc)
    go (Ok u) e (Err l) f h = absurd (cc)
    go (Ok u) e (Ok v) f h = record { low = e; high = f; clashes = made_fine (clash_of s) h }

-- what led to an answer of a plan, or of 24
record Came (lim : Limits) (s : List ℕ) (room : ℕ) (rest : Verdict → Result ℕ BuildWhy) (r : Result ℕ BuildWhy) : Type 0 where
  list : list_answer lim s ≡ Ok tt
  fits : plan_bytes (jobs s) (edges s) (slots s) ≤ room
  pair : pair_of s ≡ Ok tt
  checked : rest (check_of lim s (built_lo s) (built_hi s)) ≡ r

abbrev Passed : Result ℕ BuildWhy → Type 0
Passed (Ok k) = Unit {0}
Passed (Err (Rejected v)) = Unit {0}
Passed (Err (OfList w)) = ⊥
Passed (Err Room) = ⊥
Passed (Err (LowLate t j)) = ⊥
Passed (Err (HighLate t j)) = ⊥
Passed (Err (Both t)) = ⊥
Passed (Err (Early t)) = ⊥

module _ (lim : Limits) (s : List ℕ) (room : ℕ) (r : Result ℕ BuildWhy) (ok : Passed r) where
  abbrev judged : Verdict → Result ℕ BuildWhy
  judged v = of_check v ⨾ Ok (length (merge_plan s))

  came : build_of lim s room ≡ r → Came lim s room judged r
  unfolding build_of pair_of
  came = lists (list_answer lim s) refl
    where
      refusal : (w : BuildWhy) → Err w ≡ r → Passed (Err w)
      refusal w e = subst Passed (sym e) ok

      pairs : (x : Result (Unit {0}) Late) (y : Result (Unit {0}) Late) (z : Result (Unit {0}) Clash) → list_answer lim s ≡ Ok tt → plan_bytes (jobs s) (edges s) (slots s) ≤ room → pair_of s ≡ (of_late x y ⨾ of_clash z)
          → ((of_late x y ⨾ of_clash z) ⨾ judged (check_of lim s (built_lo s) (built_hi s))) ≡ r → Came lim s room judged r
      pairs (Err l) y z g f p e = absurd (refusal (LowLate l.slot l.job) e)
      pairs (Ok u) (Err l) z g f p e = absurd (refusal (HighLate l.slot l.job) e)
      pairs (Ok u) (Ok v) (Err (BothAt t)) g f p e = absurd (refusal (Both t) e)
      pairs (Ok u) (Ok v) (Err (EarlyAt t)) g f p e = absurd (refusal (Early t) e)
      pairs (Ok u) (Ok v) (Ok w) g f p e = record { list = g; fits = f; pair = p; checked = e }

      rooms : (b : Bool) → leb (plan_bytes (jobs s) (edges s) (slots s)) room ≡ b → list_answer lim s ≡ Ok tt
          → (need b Room ⨾ pair_of s ⨾ judged (check_of lim s (built_lo s) (built_hi s))) ≡ r → Came lim s room judged r
      rooms false f g e = absurd (refusal Room e)
      rooms true f g e = pairs (late_of s 0) (late_of s 1) (clash_of s) g (leb-true _ _ f) refl e

      lists : (a : Result (Unit {0}) Why) → list_answer lim s ≡ a
          → (of_list a ⨾ need (leb (plan_bytes (jobs s) (edges s) (slots s)) room) Room ⨾ pair_of s ⨾ judged (check_of lim s (built_lo s) (built_hi s))) ≡ r → Came lim s room judged r
      lists (Err w) g e = absurd (refusal (OfList w) e)
      lists (Ok u) g e = rooms _ refl g e

-- an edition whose jobs have numbers below the idle mark, and whose plans have lengths of 32 bits
module _ (lim : Limits) (few : lim.jobs ≤ 254) (small : most_bytes lim < 2 ^ 32) (s : List ℕ) where
  -- what is built is accepted by the check, and all that follows from it
  pub built_sound : (out : List ℕ) (k : ℕ) → build_of lim s (length out) ≡ Ok k → Sound lim s out k
  unfolding out_after merge_plan
  built_sound out k e =
      let c = came lim s (length out) (Ok k) tt e in
      let y = is_yes (check_of lim s (built_lo s) (built_hi s)) c.checked in
      let a = accepted lim s c.list in
      let f = clear s c.pair in
      let n = plan_length s (built_lo s) (built_hi s) in
      let l = list_length lim s c.list in
      let fit : length (plan_of s (built_lo s) (built_hi s)) ≤ length out = omega (arith, n, l, built_lo_long s, built_hi_long s, c.fits) in
      record {
        list = c.list;
        pair = c.pair;
        accepted = y.0;
        good = (yes_good lim s (built_lo s) (built_hi s) y.0).1;
        exact = lo_exact lim s a (omega (arith, a.most_jobs)) f.low f.high f.clashes;
        size = omega (arith, y.1, n, l, built_lo_long s, built_hi_long s);
        room = omega (arith, y.1);
        front = rw (e, ← y.1) (front_of out (plan_of s (built_lo s) (built_hi s)) fit);
        rest = rw (e, ← y.1) (rest_of out (plan_of s (built_lo s) (built_hi s)) fit);
        reads = plan_reads lim small s (built_lo s) (built_hi s) y.0;
      }
    where
      is_yes : (v : Verdict) → (of_check v ⨾ Ok (length (plan_of s (built_lo s) (built_hi s)))) ≡ Ok k → (v ≡ Ok tt) × (length (plan_of s (built_lo s) (built_hi s)) ≡ k)
      is_yes (Ok u) h = (refl, cc)
      is_yes (Err w) h = absurd (cc)

      front_of : (d v : List ℕ) → length v ≤ length d → take (length v) (put d 0 v) ≡ v
      front_of d v h = let z : 0 + length v ≡ length v = omega arith in rw z at (take_put d 0 v (omega arith))

      rest_of : (d v : List ℕ) → length v ≤ length d → drop (length v) (put d 0 v) ≡ drop (length v) d
      rest_of d v h = let z : 0 + length v + 0 ≡ length v = omega arith in rw z at (drop_put d 0 v (omega arith) 0)

  -- 24 carries a fault of the check, 10 to 12, and a real execution goes wrong there
  pub rejected_real : (room : ℕ) (v : Verdict) → build_of lim s room ≡ Err (Rejected v) → Unsound lim s v
  rejected_real room v e =
      let c = came lim s room (Err (Rejected v)) tt e in
      let a = accepted lim s c.list in
      let d = demand3 lim s (built_lo s) (built_hi s) (record { list = c.list; low = good_lo s (omega (arith, a.most_jobs)) a.one_job; high = good_hi s (omega (arith, a.most_jobs)) a.one_job }) in
      elim d.judged [
        | inl y ↦ absurd (yes_not (check_of lim s (built_lo s) (built_hi s)) y c.checked)
        | inr f ↦ record { pair = c.pair; fault = f.0; answer = no_is (check_of lim s (built_lo s) (built_hi s)) f.1 c.checked; real = d.no_real f.0 f.1 }
      ]
    where
      yes_not : (u : Verdict) → u ≡ Ok tt → (of_check u ⨾ Ok (length (merge_plan s))) ≡ Err (Rejected v) → ⊥
      yes_not (Ok x) h q = cc
      yes_not (Err w) h q = cc

      no_is : {f : Fault} (u : Verdict) → u ≡ Err (Bad f) → (of_check u ⨾ Ok (length (merge_plan s))) ≡ Err (Rejected v) → v ≡ Err (Bad f)
      no_is (Ok x) h q = absurd (cc)
      no_is (Err w) h q = cc
