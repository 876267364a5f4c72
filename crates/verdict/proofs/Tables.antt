-- The rows for the two tables: odd entries, sizes, and what stands behind each answer.
-- Assumes nothing.
use mathlib.Core.Bool.{Bool, ◌||◌, false, not}
use mathlib.Core.List.{List}
use mathlib.Core.Path.{◌∙◌, ◌≡◌, ap, refl, sym}
use Prim.Native.Nat.{◌<◌, ◌≤◌, ℕ}
use borrow.Author.Tests.{eq-eqb, lt-ltb, ne_eqb}
use lib.Dec.{eqb, ltb}
use lib.ListN.{length}
use Rattle.basics.specs.Chain.{◌⨾◌}
use Rattle.basics.specs.Limits.{Limits, first_edition}
use Rattle.basics.specs.Marks.{idle}
use Rattle.frame.proofs.TwoSearch.{two_search}
use Rattle.frame.specs.Search.{Finding, first_fault, found, nothing}
use Rattle.frame.specs.TwoLevels.{search_two}
use Rattle.joblist.proofs.Accepted.{accepted, accepted_named}
use Rattle.joblist.specs.Accepted.{Accepted}
use Rattle.joblist.specs.Answer.{list_answer}
use Rattle.joblist.specs.Cycle.{Named}
use Rattle.joblist.specs.Fields.{edge_in, edges, jobs, list_bytes, slots}
use Rattle.verdict.proofs.Find.{first_none, first_some}
use Rattle.verdict.proofs.WellFormed.{well_formed}
use Rattle.verdict.specs.Answer.{Verdict, entry_answer, odd_entry, search_answer, tables_answer}
use Rattle.verdict.specs.Count.{entry_at}
use Rattle.verdict.specs.FrameOf.{frame_of, frame_with}
use Rattle.verdict.specs.Inner.{Rising, Search, first_of, told}
use Rattle.std.specs.Prelude.{Some, None, Ok, Err, MatchResult, IsErrAnd}
use Rattle.std.proofs.lemmas.Result.{err_from_is_err_and}
use Rattle.verdict.specs.declared.Objection.TheVariants.{Bad, Entry, Size}

-- the test of an entry
abbrev pub odd_test : List ℕ → ℕ → ℕ → Bool
odd_test table n t = not (ltb (entry_at table t) n || eqb (entry_at table t) idle)

module _ (j n : ℕ) where
  pub odd_job : j < n → false ≡ not (ltb j n || eqb j idle)
  odd_job a = sym (rw (lt-ltb j n a))

-- what a search answers, as the check's answer
abbrev pub bad_of : Search → Verdict
bad_of (Ok u) = Ok tt
bad_of (Err f) = Err (Bad f)

bad_told : (a : Finding) → bad_of (told a) ≡ search_answer a
bad_told nothing = refl
bad_told (found f) = refl

pub bad_is : (r : Search) (v : Verdict) → MatchResult r (λ x. v ≡ Ok x) (λ f. IsErrAnd v (λ w. w ≡ Bad f)) → v ≡ bad_of r
bad_is (Ok u) v h = h
bad_is (Err f) v h = let p = err_from_is_err_and v h in p.1 ∙ ap Err p.2

-- the answers in their order, with the head's numbers as the code has read them
module _ (s lo hi : List ℕ) (n m l : ℕ) (pn : n ≡ jobs s) (pm : m ≡ edges s) (pl : l ≡ slots s) where
  pub size_lo : ¬ (length lo ≡ l) → Err Size ≡ tables_answer s lo hi
  unfolding tables_answer
  size_lo h = sym (rw (ne_eqb (length lo) (slots s) (λ z. h (z ∙ sym pl))))

  module _ (a : length lo ≡ l) where
    pub size_hi : ¬ (length hi ≡ l) → Err Size ≡ tables_answer s lo hi
    unfolding tables_answer
    size_hi h = sym (rw (eq-eqb (length lo) (slots s) (a ∙ pl), ne_eqb (length hi) (slots s) (λ z. h (z ∙ sym pl))))

    module _ (b : length hi ≡ l) where
      sized : tables_answer s lo hi ≡ entry_answer (odd_entry lo n) ⨾ entry_answer (odd_entry hi n) ⨾ search_answer (first_fault (frame_of s lo hi))
      unfolding tables_answer
      sized = rw (eq-eqb (length lo) (slots s) (a ∙ pl), eq-eqb (length hi) (slots s) (b ∙ pl), pn)

      pub entry_lo : (t : ℕ) → first_of (odd_entry lo n) ≡ Some t → Err (Entry t) ≡ tables_answer s lo hi
      entry_lo t h = sym (sized ∙ rw (first_some (odd_entry lo n) t h))

      module _ (none-lo : first_of (odd_entry lo n) ≡ None) where
        pub entry_hi : (t : ℕ) → first_of (odd_entry hi n) ≡ Some t → Err (Entry t) ≡ tables_answer s lo hi
        entry_hi t h = sym (sized ∙ rw (first_none (odd_entry lo n) none-lo, first_some (odd_entry hi n) t h))

        module _ (none-hi : first_of (odd_entry hi n) ≡ None) (lim : Limits) (good : list_answer lim s ≡ Ok tt) (r : Search)
            (is : r ≡ told (search_two (frame_with s n l lo hi (edge_in s n m)))) where
          searched : r ≡ told (first_fault (frame_of s lo hi))
          searched =
              is ∙ (λ i. told (search_two (frame_with s (pn i) (pl i) lo hi (edge_in s (pn i) (pm i)))))
              ∙ ap told (sym (two_search (frame_of s lo hi) (well_formed lim s lo hi (accepted lim s good)) refl))

          whole : tables_answer s lo hi ≡ search_answer (first_fault (frame_of s lo hi))
          whole = sized ∙ rw (first_none (odd_entry lo n) none-lo, first_none (odd_entry hi n) none-hi)

          pub says : bad_of r ≡ tables_answer s lo hi
          says = ap bad_of searched ∙ bad_told (first_fault (frame_of s lo hi)) ∙ sym whole

  -- what an accepted list has that the search requires, and a table of its length
  module _ (A : Accepted first_edition s) where
    pub few_jobs : n ≤ first_edition.jobs
    few_jobs = rw pn A.most_jobs

    pub few_slots : l ≤ first_edition.slots
    few_slots = rw pl A.most_slots

    pub whole_list : list_bytes n m ≤ length s
    whole_list = rw (pn, pm) A.fits

    pub named_jobs : Named s n m
    named_jobs = rw (pn, pm) (accepted_named first_edition s A)

    pub rising_budgets : Rising s n
    rising_budgets = rw pn (λ j h. (A.job j h).rising)
