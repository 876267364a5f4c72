-- The fields of a plan that the reader accepts: they are read where they stand, and the state made of them is sound.
-- Assumes nothing.
use Prim.Native.Nat.{ℕ, zero, suc, ◌+◌, ◌*◌, ◌/◌, ◌%◌, ◌≤◌, ◌<◌}
use mathlib.Core.Path.{◌≡◌, refl, ap, ◌∙◌}
use mathlib.Core.Logic.{inl, inr}
use mathlib.Core.Bool.{Bool, true}
use mathlib.Core.List.{List}
use native.Mathlib.Nat.{add-zero}
use native.Mathlib.Omega.{arith}
use lib.ListN.{length, get_or}
use lib.Dec.{leb, eqb}
use Rattle.std.specs.Prelude.{Ok, Err}
use borrow.Author.Tests.{eqb-true, le-leb, lt-ltb}
use Rattle.basics.specs.Below.{all_of}
use Rattle.basics.proofs.Tests.{or_right}
use Rattle.basics.specs.Bytes.{u16_at}
use Rattle.basics.specs.Limits.{Limits, first_edition}
use Rattle.basics.specs.Marks.{idle}
use Rattle.joblist.specs.Fields.{head_bytes, jobs, edges, slots, job_at, edge_at, list_bytes, head_zero, ordinary, level, job_zero}
use Rattle.basics.specs.Chain.{each}
use Rattle.joblist.specs.Answer.{counts_answer, zero_answer, body_answer, front_answer, list_answer}
use Rattle.joblist.specs.declared.Why.TheVariants.{Short}
use Rattle.basics.proofs.Chain.{both_good, need_good, row_good, each_good}
use Rattle.joblist.specs.Accepted.{Accepted}
use Rattle.joblist.proofs.Accepted.{accepted}
use Rattle.basics.proofs.At.{get_d_any}
use Rattle.verdict.specs.Demand.{Input, GoodTable}
use Rattle.planfile.specs.Plan.{list_of, low_of, high_of}
use Rattle.planfile.specs.Answer.{read_of}
use Rattle.planfile.specs.declared.ReadWhy.{ReadWhy}
use Rattle.planfile.specs.declared.Shape.{Shape}
use Rattle.planfile.proofs.Accepted.{read_yes, pair_yes}
use Rattle.dispatch.specs.declared.state.State.{State}
use Rattle.machine.specs.declared.answer.Why.TheVariants.{BadState}
use Rattle.parts.specs.Plan.{plan_with, no_plan, number_in, level_of}
use Rattle.parts.specs.Scan.{sizes_ok, byte_ok, slot_ok, tables_ok, edges_ok, job_ok, jobs_ok}
use Rattle.dispatch.specs.Open.{jobs_of, edges_of, tables_of, fields_of, JobFields, open_of}
use Rattle.machine.specs.Machine.{plan_ok, sound_on}
use Rattle.dispatch.specs.State.{run_of, beside, state_ok, fresh_of, no_state, step_of}
use Rattle.machine.specs.Numbers.{answer_number}
use Rattle.dispatch.specs.Runs.{Given, Each, answers_of}
use Rattle.machine.proofs.Steps.{step_bad}
use Rattle.dispatch.proofs.Sound.{fresh_sound, never_37}
use Rattle.basics.proofs.Below.{all_each}
use Rattle.dispatch.proofs.Entries.{entries_at, first_at, second_at}

-- what the code reads is what the definition says
pub fields_are : (s lo hi : List ℕ) (l n m : ℕ) (j e t : List ℕ) → l ≡ slots s → n ≡ jobs s → m ≡ edges s
    → j ≡ jobs_of first_edition s n → e ≡ edges_of first_edition s n m → t ≡ tables_of first_edition lo hi l
    → plan_with (record { len = l; n = n; m = m }) j e t ≡ fields_of first_edition s lo hi
unfolding fields_of
fields_are s lo hi l n m j e t ql qn qm qj qe qt = rw (qj, qe, qt, ql, qn, qm)

-- the room that reading them needs
pub fields_fit : (s : List ℕ) (w : Shape) → read_of first_edition s ≡ Ok w
    → (jobs (list_of s) ≤ first_edition.jobs) × (edges (list_of s) ≤ first_edition.edges) × (slots (list_of s) ≤ first_edition.slots) × (list_bytes (jobs (list_of s)) (edges (list_of s)) ≤ length (list_of s))
    × (slots (list_of s) ≤ length (low_of s)) × (slots (list_of s) ≤ length (high_of s))
fields_fit s w h =
    let i = pair_yes _ _ _ _ (read_yes first_edition s w h).checked in
    let a = accepted first_edition (list_of s) i.list in
    (a.most_jobs, a.most_edges, a.most_slots, a.fits, omega (arith, i.low.size), omega (arith, i.high.size))

module _ (lim : Limits) (s : List ℕ) (first : ℕ) (st : State) where
  pub open_yes : (w : Shape) → read_of lim s ≡ Ok w → st ≡ fresh_of lim (fields_of lim (list_of s) (low_of s) (high_of s)) first
      → record { answer = Ok w; state = st } ≡ open_of lim s first
  unfolding open_of
  open_yes w h q = rw (h, q)

  pub open_no : (w : ReadWhy) → read_of lim s ≡ Err w → st ≡ no_state lim → record { answer = Err w; state = st } ≡ open_of lim s first
  unfolding open_of
  open_no w h q = rw (h, q)

-- the zero byte of a job of an accepted list
zero_byte : (lim : Limits) (s : List ℕ) → list_answer lim s ≡ Ok tt → (j : ℕ) → j < jobs s → job_zero s j ≡ 0
unfolding list_answer front_answer body_answer
zero_byte lim s h j l =
    let f = (row_good (leb head_bytes (length s)) Short _ h).1 in
    let b = (both_good (counts_answer lim (length s) (list_bytes (jobs s) (edges s)) (jobs s) (edges s) (slots s) (head_zero s)) _ f).1 in
    let z = (both_good (each (jobs s) (zero_answer s)) _ b).0 in
    eqb-true _ _ (need_good _ _ (each_good (zero_answer s) (jobs s) z j l))

-- the fields of well_formed input are sound
module _ (lim : Limits) (s lo hi : List ℕ) (i : Input lim s lo hi) where
  good : Accepted lim s
  good = accepted lim s i.list

  -- number k of job j is the list's
  number_at : (k : ℕ) → k < 5 → (j : ℕ) → j < jobs s → number_in (jobs_of lim s (jobs s)) j k ≡ u16_at s (job_at j + 2 * k)
  unfolding jobs_of
  number_at k h j l =
      entries_at (5 * lim.jobs) (λ i. u16_at s (head_bytes + 2 * i)) (5 * jobs s) (omega (arith, good.most_jobs)) (5 * j + k) (omega arith)
      ∙ ap (u16_at s) (let q : head_bytes + 2 * (5 * j + k) ≡ job_at j + 2 * k = omega arith in q)

  -- the level with its zero byte is the level
  level_at : (j : ℕ) → j < jobs s → level_of (jobs_of lim s (jobs s)) j ≡ level s j
  unfolding u16_at
  level_at j l =
      let z : get_or s (job_at j + 8 + 1) 0 ≡ 0 = ap (λ n. get_or s n 0) (let w : job_at j + 8 + 1 ≡ job_at j + 9 = omega arith in w) ∙ zero_byte lim s i.list j l in
      let q : get_or s (job_at j + 8) 0 + 256 * get_or s (job_at j + 8 + 1) 0 ≡ level s j = omega arith in
      number_at 4 (omega arith) j l ∙ q

  -- the jobs of an accepted plan are the list's
  pub job_fields : (j : ℕ) → j < jobs s → JobFields lim s j
  job_fields j l =
      record {
        arrival = number_at 0 (omega arith) j l ∙ ap (u16_at s) (add-zero _);
        deadline = number_at 1 (omega arith) j l;
        clo = number_at 2 (omega arith) j l;
        chi = number_at 3 (omega arith) j l;
        level = level_at j l;
      }

  byte_good : (table : List ℕ) → GoodTable s table → (t : ℕ) → t < slots s → byte_ok (jobs s) (get_or table t 0) ≡ true
  unfolding byte_ok
  byte_good table g t l =
      let w : t < length table = omega (arith, g.size) in
      rw (get_d_any table t 0 idle w) (elim (g.entry t w) [ inl m ↦ or_right (eqb (get_or table t idle) idle) _ (lt-ltb _ _ m) | inr e ↦ rw (e) ])

  tables_good : tables_ok lim (tables_of lim lo hi (slots s)) (slots s) (jobs s) ≡ true
  unfolding tables_ok slot_ok tables_of all_of
  tables_good =
      all_each _ _ (λ t l. rw (
        first_at lim.slots (λ t. get_or lo t 0) (λ t. get_or hi t 0) (slots s) good.most_slots t l,
        second_at lim.slots (λ t. get_or lo t 0) (λ t. get_or hi t 0) (slots s) good.most_slots t l,
        byte_good lo i.low t l,
        byte_good hi i.high t l,
      ))

  edges_good : edges_ok (edges_of lim s (jobs s) (edges s)) (edges s) (jobs s) ≡ true
  unfolding edges_ok edges_of
  edges_good =
      all_each _ _ (λ k l. rw (entries_at (2 * lim.edges) (λ i. get_or s (job_at (jobs s) + i) 0) (2 * edges s) (omega (arith, good.most_edges)) k l) (lt-ltb _ _ (end_low k l)))
    where
      end_low : (k : ℕ) → k < 2 * edges s → get_or s (job_at (jobs s) + k) 0 < jobs s
      end_low k l = by_half (k % 2) (k / 2) (omega arith) (omega arith)
        where
          by_half : (r e : ℕ) → r < 2 → k ≡ 2 * e + r → get_or s (job_at (jobs s) + k) 0 < jobs s
          by_half zero e h q = rw (ap (λ n. get_or s n 0) (let w : job_at (jobs s) + k ≡ edge_at (jobs s) e = omega arith in w)) (good.edge e (omega arith)).from
          by_half (suc r) e h q = rw (ap (λ n. get_or s n 0) (let w : job_at (jobs s) + k ≡ edge_at (jobs s) e + 1 = omega arith in w)) (good.edge e (omega arith)).to

  jobs_good : jobs_ok lim (jobs_of lim s (jobs s)) (jobs s) ≡ true
  unfolding jobs_ok job_ok all_of
  jobs_good =
      all_each _ _ (λ j l. rw (
        level_at j l,
        number_at 2 (omega arith) j l,
        number_at 3 (omega arith) j l,
        le-leb _ _ (good.job j l).known,
        le-leb (ordinary s j) lim.budget (omega (arith, (good.job j l).rising, (good.job j l).most)),
        le-leb _ _ (good.job j l).most,
      ))

  pub fields_sound : plan_ok lim (fields_of lim s lo hi) ≡ true
  unfolding fields_of plan_ok sizes_ok all_of
  fields_sound =
      rw (
        le-leb _ _ good.one_slot,
        le-leb _ _ good.most_slots,
        le-leb _ _ good.one_job,
        le-leb _ _ good.most_jobs,
        le-leb _ _ good.most_edges,
        tables_good,
        edges_good,
        jobs_good,
      )

-- an accepted plan's state is sound
pub opened_sound : (lim : Limits) (s : List ℕ) (first : ℕ) (w : Shape) → read_of lim s ≡ Ok w → state_ok lim (open_of lim s first).state ≡ true
unfolding open_of
opened_sound lim s first w h =
    rw (h) (fresh_sound lim _ first (fields_sound lim _ _ _ (pair_yes _ _ _ _ (read_yes lim s w h).checked)))

-- so no run after an open that succeeded ever answers 37
pub opened_never_37 : (lim : Limits) (s : List ℕ) (first : ℕ) (w : Shape) → read_of lim s ≡ Ok w → (r : List Given)
    → Each (λ a. answer_number a ≡ 37 → ⊥) (answers_of lim (open_of lim s first).state r)
opened_never_37 lim s first w h r = never_37 lim _ (opened_sound lim s first w h) r

-- and a refused open leaves a state on which every step says 37
pub refused_says_37 : (lim : Limits) (s : List ℕ) (first : ℕ) (w : ReadWhy) → read_of lim s ≡ Err w → (tick : ℕ) (e : Bool)
    → step_of lim (open_of lim s first).state tick e ≡ record { answer = Err BadState; state = no_state lim }
unfolding open_of sound_on plan_ok sizes_ok no_state no_plan all_of
refused_says_37 lim s first w h tick e =
    rw (h) (ap (beside (no_plan lim)) (step_bad lim (no_plan lim) (run_of (no_state lim)) tick e refl))
