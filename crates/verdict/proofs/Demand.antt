-- Demand 3 on bytes: the check says yes exactly when every execution is good, and a no names a slot where a real one goes wrong.
-- Assumes nothing.
use mathlib.Core.Bool.{false, not, or-true}
use mathlib.Core.List.{List}
use mathlib.Core.Logic.{◌⊎◌, inl, inr}
use mathlib.Core.Option.{Option, none, some}
use mathlib.Core.Path.{◌∙◌, ◌≡◌, ap, refl, sym}
use Prim.Native.Nat.{◌<◌, ℕ}
use native.Mathlib.Omega.{arith}
use borrow.Author.Tests.{eq-eqb}
use lib.Dec.{ltb}
use lib.ListN.{length}
use Rattle.basics.proofs.Find.{find_some}
use Rattle.basics.proofs.Tests.{of_false}
use Rattle.basics.specs.Chain.{◌⨾◌}
use Rattle.basics.specs.Find.{find}
use Rattle.basics.specs.Limits.{Limits}
use Rattle.basics.specs.Marks.{idle}
use Rattle.frame.specs.Demand.{Real}
use Rattle.frame.specs.Jobs.{Frame}
use Rattle.frame.specs.Search.{Finding, first_fault, found, nothing}
use Rattle.joblist.proofs.Accepted.{accepted}
use Rattle.joblist.specs.Fields.{jobs, slots}
use Rattle.joblist.specs.declared.Why.{Why}
use Rattle.verdict.proofs.Tables.{odd_job, odd_test}
use Rattle.verdict.proofs.WellFormed.{well_formed}
use Rattle.verdict.specs.Answer.{check_of, fault_of, odd_entry, of_list, search_answer, switch_of, tables_answer}
use Rattle.verdict.specs.Count.{entry_at}
use Rattle.verdict.specs.Demand.{Demand3, GoodTable, Input, RealFault}
use Rattle.verdict.specs.FrameOf.{frame_of}
use Rattle.verdict.specs.declared.Fault.{Fault}
use Rattle.verdict.specs.declared.Objection.TheVariants.{Bad}
use Rattle.std.specs.Prelude.{Result, Ok, Err}
use Rattle.frame.specs.Search.{Fault as Found}
use Rattle.frame.proofs.Demand.{demand3 as frame-demand3}

-- a good table has no odd entry
good_table : (s table : List ℕ) → GoodTable s table → odd_entry table (jobs s) ≡ none
unfolding odd_entry
good_table s table g = go (find (odd_test table (jobs s)) (length table) 0) refl
  where
    fine : (x : ℕ) → x < length table → odd_test table (jobs s) x ≡ false
    fine x h = elim (g.entry x h) [
      | inl a ↦ sym (odd_job (entry_at table x) (jobs s) a)
      | inr a ↦ rw (eq-eqb (entry_at table x) idle a) (ap not (or-true (ltb (entry_at table x) (jobs s))))
    ]

    go : (o : Option ℕ) → find (odd_test table (jobs s)) (length table) 0 ≡ o → o ≡ none
    go none h = refl
    go (some x) h =
        let y = find_some (odd_test table (jobs s)) (length table) 0 x h in
        absurd (of_false (fine x (omega arith)) y.0)

module _ (lim : Limits) (s lo hi : List ℕ) (input : Input lim s lo hi) where
  abbrev F : Frame
  F = frame_of s lo hi

  -- well_formed input gets past every row to the search
  pub check_is : check_of lim s lo hi ≡ search_answer (first_fault (frame_of s lo hi))
  unfolding check_of tables_answer
  check_is =
      ap (λ (a : Result Unit Why). of_list a ⨾ tables_answer s lo hi) input.list
      ∙ rw (eq-eqb (length lo) (slots s) input.low.size, eq-eqb (length hi) (slots s) input.high.size, good_table s lo input.low, good_table s hi input.high)

  yes_nothing : (a : Finding) → search_answer a ≡ Ok tt → a ≡ nothing
  yes_nothing nothing h = refl
  yes_nothing (found f) h = let z : ◌≡◌ {A = ℕ} 0 1 = cc in absurd (omega arith)

  no_found : (a : Finding) (f : Fault) → first_fault F ≡ a → search_answer a ≡ Err (Bad f) → ((g : Found) → first_fault F ≡ found g → Real F g) → RealFault s lo hi f
  no_found nothing f p h k = let z : ◌≡◌ {A = ℕ} 0 1 = cc in absurd (omega arith)
  no_found (found g) f p h k =
      record { fault = g; said = (let z : fault_of g.slot (switch_of g.chain) g.kind ≡ f = cc in z); real = k g p }

  either : (a : Finding) → check_of lim s lo hi ≡ search_answer a → (check_of lim s lo hi ≡ Ok tt) ⊎ ((f : Fault) × (check_of lim s lo hi ≡ Err (Bad f)))
  either nothing h = inl h
  either (found f) h = inr (fault_of f.slot (switch_of f.chain) f.kind, h)

  pub demand3 : Demand3 lim s lo hi
  demand3 =
      let d = frame-demand3 F (well_formed lim s lo hi (accepted lim s input.list)) in
      record {
        yes_iff = ((λ y. d.yes_iff.0 (yes_nothing (first_fault F) (sym check_is ∙ y))), (λ g. check_is ∙ ap search_answer (d.yes_iff.1 g)));
        no_real = λ f y. no_found (first_fault F) f refl (sym check_is ∙ y) d.no_real;
        judged = either (first_fault F) check_is;
      }
