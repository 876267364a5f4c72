-- The other way: where the check says yes, or names a fault, its input is well formed.
-- Assumes nothing.
use mathlib.Core.Bool.{Bool, false, true}
use mathlib.Core.List.{List}
use mathlib.Core.Logic.{◌⊎◌, inl, inr}
use mathlib.Core.Option.{Option, none, some}
use mathlib.Core.Path.{◌≡◌, refl}
use Prim.Native.Nat.{◌<◌, ℕ}
use native.Mathlib.Omega.{arith}
use borrow.Author.Tests.{eqb-true, ltb-true}
use lib.Dec.{T, eqb, ltb}
use lib.ListN.{length}
use Rattle.basics.proofs.Find.{find_none}
use Rattle.basics.proofs.Tests.{of_true}
use Rattle.basics.specs.Chain.{◌⨾◌, need}
use Rattle.basics.specs.Limits.{Limits}
use Rattle.basics.specs.Marks.{idle}
use Rattle.frame.specs.Demand.{EveryExecutionGood}
use Rattle.joblist.specs.Answer.{list_answer}
use Rattle.joblist.specs.Fields.{jobs, slots}
use Rattle.joblist.specs.declared.Why.{Why}
use Rattle.verdict.proofs.Demand.{demand3}
use Rattle.verdict.proofs.Tables.{odd_test}
use Rattle.verdict.specs.Answer.{Verdict, check_of, entry_answer, odd_entry, of_list, tables_answer}
use Rattle.verdict.specs.Count.{entry_at}
use Rattle.verdict.specs.Demand.{GoodTable, Input, RealFault}
use Rattle.verdict.specs.FrameOf.{frame_of}
use Rattle.verdict.specs.declared.Fault.{Fault}
use Rattle.verdict.specs.declared.Objection.TheVariants.{Bad, Entry, OfList, Size}
use Rattle.std.specs.Prelude.{Result, Ok, Err}

-- an answer that only the search gives
abbrev pub searched : Verdict → Bool
searched (Ok u) = true
searched (Err (Bad f)) = true
searched (Err (Entry t)) = false
searched (Err Size) = false
searched (Err (OfList w)) = false

size_searched : (b : Bool) (r : Verdict) → T (searched (need b Size ⨾ r)) → (b ≡ true) × T (searched r)
size_searched true r h = (refl, h)
size_searched false r h = absurd h

entry_searched : (o : Option ℕ) (r : Verdict) → T (searched (entry_answer o ⨾ r)) → (o ≡ none) × T (searched r)
entry_searched none r h = (refl, h)
entry_searched (some t) r h = absurd h

list_searched : (a : Result Unit Why) (r : Verdict) → T (searched (of_list a ⨾ r)) → (a ≡ Ok tt) × T (searched r)
list_searched (Ok u) r h = (refl, h)
list_searched (Err w) r h = absurd h

-- a table of L bytes with no odd entry is good
none_odd : (s table : List ℕ) → length table ≡ slots s → odd_entry table (jobs s) ≡ none → GoodTable s table
unfolding odd_entry
none_odd s table a h = record { size = a; entry = entry }
  where
    entry : (t : ℕ) → t < length table → (entry_at table t < jobs s) ⊎ (entry_at table t ≡ idle)
    entry t l = go (ltb (entry_at table t) (jobs s)) (eqb (entry_at table t) idle) refl refl
      where
        go : (x y : Bool) → ltb (entry_at table t) (jobs s) ≡ x → eqb (entry_at table t) idle ≡ y → (entry_at table t < jobs s) ⊎ (entry_at table t ≡ idle)
        go true y p q = inl (ltb-true _ _ p)
        go false true p q = inr (eqb-true _ _ q)
        go false false p q =
            let z : odd_test table (jobs s) t ≡ true = rw (p, q) in
            absurd (find_none (odd_test table (jobs s)) (length table) 0 h t (omega arith) (omega arith) (of_true z))

module _ (lim : Limits) (s lo hi : List ℕ) where
  pub judged_input : T (searched (check_of lim s lo hi)) → Input lim s lo hi
  unfolding check_of tables_answer
  judged_input h =
      let a = list_searched (list_answer lim s) (tables_answer s lo hi) h in
      let b = size_searched (eqb (length lo) (slots s)) _ a.1 in
      let c = size_searched (eqb (length hi) (slots s)) _ b.1 in
      let d = entry_searched (odd_entry lo (jobs s)) _ c.1 in
      let e = entry_searched (odd_entry hi (jobs s)) _ d.1 in
      record { list = a.0; low = none_odd s lo (eqb-true _ _ b.0) d.0; high = none_odd s hi (eqb-true _ _ c.0) e.0 }

  -- a yes says that every execution is good, with nothing asked of the input
  pub yes_good : check_of lim s lo hi ≡ Ok tt → Input lim s lo hi × EveryExecutionGood (frame_of s lo hi)
  yes_good y =
      let i = judged_input (rw y tt) in
      (i, (demand3 lim s lo hi i).yes_iff.0 y)

  -- and a no from 10 to 12 is a bad slot of a real execution
  pub no_bad : (f : Fault) → check_of lim s lo hi ≡ Err (Bad f) → Input lim s lo hi × RealFault s lo hi f
  no_bad f y =
      let i = judged_input (rw y tt) in
      (i, (demand3 lim s lo hi i).no_real f y)
