-- What a witness says: where the check names a fault, the needs are those of a real execution that is bad there.
-- Assumes nothing.
use mathlib.Core.List.{List}
use mathlib.Core.Path.{◌∙◌, ◌≡◌, ap, ap₂, refl, sym}
use Prim.Native.Nat.{◌+◌, ◌<◌, ◌≤◌, suc, ℕ}
use native.Mathlib.Omega.{arith}
use borrow.Author.Tests.{le-leb, lt-leb}
use lib.ListN.{length, replicate}
use Rattle.std.specs.Prelude.{Ok, Err}
use Rattle.basics.specs.Below.{entries_before}
use Rattle.basics.specs.Limits.{Limits, first_edition}
use Rattle.basics.specs.Marks.{no_switch}
use Rattle.basics.specs.Units.{units_of}
use Rattle.frame.proofs.Sound.{Shown, shown}
use Rattle.frame.specs.Execution.{Badness, before, early, late}
use Rattle.frame.specs.Jobs.{Frame, WellFormed}
use Rattle.frame.specs.Search.{Fault as Found, Finding, first_fault, found, nothing}
use Rattle.joblist.proofs.Accepted.{accepted}
use Rattle.joblist.specs.Accepted.{Accepted}
use Rattle.joblist.specs.Fields.{job_at, jobs, ordinary, slots}
use Rattle.verdict.proofs.Demand.{check_is}
use Rattle.verdict.proofs.Judged.{judged_input}
use Rattle.verdict.proofs.Switches.{entries_all}
use Rattle.verdict.proofs.WellFormed.{well_formed}
use Rattle.verdict.specs.Answer.{Verdict, check_of, fault_of, search_answer, switch_of}
use Rattle.verdict.specs.Count.{entries_in, entry_at}
use Rattle.verdict.specs.Demand.{Input}
use Rattle.verdict.specs.FrameOf.{frame_of}
use Rattle.verdict.specs.declared.Fault.{Fault}
use Rattle.verdict.specs.declared.Objection.TheVariants.{Bad, Entry, OfList, Size}
use Rattle.witness.proofs.Again.{again}
use Rattle.witness.proofs.Filled.{keeps_first, keeps_other, keeps_own, need_chi, need_clo, needs_at}
use Rattle.witness.proofs.TwoNeeds.{NeedAt, Needs, behind, had, more, needs_of, ordinary as all-ordinary, own}
use Rattle.witness.specs.Needs.{need_of, needs_behind, needs_to, saying, switch_in, witness_of}
use Rattle.witness.specs.Night.{Night, Witnessed}

switch_of_lem : (t x : ℕ) (w : Badness) → switch_in (fault_of t x w) ≡ x
switch_of_lem t x (late j) = refl
switch_of_lem t x (early j) = refl
switch_of_lem t x (before j p) = refl

module _ (lim : Limits) (s lo hi : List ℕ) where
  abbrev F : Frame
  F = frame_of s lo hi

  -- a fault that the check names is the one that the search finds
  record Searched (f : Fault) : Type 0 where
    fault : Found
    said : fault_of fault.slot (switch_of fault.chain) fault.kind ≡ f
    is : first_fault F ≡ found fault

  searched : (a : Finding) (f : Fault) → first_fault F ≡ a → search_answer a ≡ Err (Bad f) → Searched f
  searched nothing f p h = cc
  searched (found g) f p h = record { fault = g; said = (let z : fault_of g.slot (switch_of g.chain) g.kind ≡ f = cc in z); is = p }

  module _ (small : lim.slots ≤ no_switch) (f : Fault) (y : check_of lim s lo hi ≡ Err (Bad f)) where
    input : Input lim s lo hi
    input = judged_input lim s lo hi (rw y tt)

    pub list_accepted : Accepted lim s
    list_accepted = accepted lim s input.list

    W : WellFormed F
    W = well_formed lim s lo hi list_accepted

    found_by : Searched f
    found_by = searched (first_fault F) f refl (sym (check_is lim s lo hi input) ∙ y)

    its : Shown F found_by.fault
    its = shown F W found_by.fault found_by.is

    abbrev demand : ℕ → ℕ
    demand = its.real.demand

    needed : Needs F W refl found_by.fault demand
    needed = needs_of F W refl found_by.fault its.real its.needs

    switch_is : switch_in f ≡ switch_of found_by.fault.chain
    switch_is = ap switch_in (sym found_by.said) ∙ switch_of_lem found_by.fault.slot (switch_of found_by.fault.chain) found_by.fault.kind

    -- the switch slot of the answer is a slot, or the mark
    switch_known : switch_in f ≤ no_switch
    switch_known = go needed
      where
        go : Needs F W refl found_by.fault demand → switch_in f ≤ no_switch
        go (all-ordinary e c) = omega (arith, switch_is, ap switch_of e)
        go (behind x e l c) = omega (arith, switch_is, ap switch_of e, l, list_accepted.most_slots)

    -- what filling in the needs asks for
    pub fillable : (n x : ℕ) → n ≡ jobs s → x ≡ switch_in f → (n ≤ lim.jobs) × (job_at n ≤ length s) × (x ≤ no_switch)
    fillable n x a b = (omega (arith, a, list_accepted.most_jobs), omega (arith, a, list_accepted.fits), omega (arith, b, switch_known))

    -- behind a switch at slot x
    module _ (x i v : ℕ) (l : x < slots s) where
      not_mark : ¬ (x ≡ no_switch)
      not_mark h = omega (arith, h, l, small, list_accepted.most_slots)

      counted : entries_in lo i (x + 1) ≡ entries_before (entry_at lo) i (suc x)
      counted = entries_all lo i (x + 1) (omega (arith, l, input.low.size)) ∙ ap (entries_before (entry_at lo) i) (let e : x + 1 ≡ suc x = omega arith in e)

      need_behind : NeedAt F W refl x i v → v ≡ need_of s lo x i
      need_behind (own p e) = e ∙ need_chi s lo x i (keeps_own s lo x i not_mark p)
      need_behind (had p h e) = e ∙ need_clo s lo x i (sym (le-leb (ordinary s i) (entries_in lo i (x + 1)) (omega (arith, h, counted))) ∙ keeps_other s lo x i not_mark p)
      need_behind (more p h e) = e ∙ need_chi s lo x i (sym (lt-leb (ordinary s i) (entries_in lo i (x + 1)) (omega (arith, h, counted))) ∙ keeps_other s lo x i not_mark p)

    demand_is : (i : ℕ) → i < jobs s → demand i ≡ need_of s lo (switch_in f) i
    demand_is i a = go needed
      where
        go : Needs F W refl found_by.fault demand → demand i ≡ need_of s lo (switch_in f) i
        go (all-ordinary e c) = c i ∙ need_clo s lo (switch_in f) i (keeps_first s lo (switch_in f) i (switch_is ∙ ap switch_of e))
        go (behind x e l c) = need_behind x i (demand i) l (c i a) ∙ ap (λ (z : ℕ). need_of s lo z i) (sym (switch_is ∙ ap switch_of e))

    abbrev needs : List ℕ
    needs = needs_to lim.jobs s lo (switch_in f) (jobs s)

    night : Night s lo hi f needs
    night =
        let r = again F W demand (units_of needs) (λ i a. demand_is i a ∙ sym (needs_at lim.jobs s lo (switch_in f) (jobs s) i list_accepted.most_jobs a)) found_by.fault its.real refl in
        record { wrong = record { fault = found_by.fault; said = found_by.said; real = r.0 }; demand = r.1 }

  no_fault : (v : Verdict) → ((f : Fault) → ¬ (v ≡ Err (Bad f))) → needs_behind lim s lo v ≡ replicate lim.jobs 0
  no_fault (Ok u) h = refl
  no_fault (Err (OfList w)) h = refl
  no_fault (Err Size) h = refl
  no_fault (Err (Entry t)) h = refl
  no_fault (Err (Bad f)) h = absurd (h f refl)

  -- the answer and the needs, as the code puts them together
  pub says : (v : Verdict) (needs : List ℕ) → v ≡ check_of lim s lo hi → needs ≡ needs_behind lim s lo v → saying v needs ≡ witness_of lim s lo hi
  unfolding witness_of
  says v needs a b = ap₂ saying a (b ∙ ap (needs_behind lim s lo) a)

  pub says_none : (v : Verdict) → v ≡ check_of lim s lo hi → ((f : Fault) → ¬ (v ≡ Err (Bad f))) → saying v (replicate lim.jobs 0) ≡ witness_of lim s lo hi
  says_none v a h = says v (replicate lim.jobs 0) a (sym (no_fault v h))

  -- where no slot has the number of the mark
  pub witnessed : lim.slots ≤ no_switch → Witnessed lim s lo hi
  unfolding witness_of
  witnessed small = record {
    answer = refl;
    night = λ f y. rw y (night small f y);
    none = no_fault (check_of lim s lo hi);
  }

-- the first edition, on every input
pub first_witnessed : (s lo hi : List ℕ) → Witnessed first_edition s lo hi
first_witnessed s lo hi = witnessed first_edition s lo hi (omega arith)
