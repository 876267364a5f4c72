-- Document 01, 'The dispatcher', with 36 of request 2026-02: a function of a plan, which never changes, a run, a tick and a mark, to an answer and a run.
-- Assumes nothing.
use Rattle.std.specs.Prelude.{ℕ, ◌+◌, Bool, not, ◌&&◌, ◌||◌, List, [], ◌∷◌, Result, Ok, Err, replicate, ◌==◌, nat_le, nat_lt, slice_index, slice_set}
use Rattle.basics.specs.Chain.{◌⨾◌, need}
use Rattle.basics.specs.Choice.{pick}
use Rattle.basics.specs.Below.{all_of}
use Rattle.basics.specs.Limits.{Limits}
use Rattle.basics.specs.Marks.{idle}
use Rattle.parts.specs.declared.lent.Marks.{Marks}
use Rattle.parts.specs.declared.plan.Counts.{Counts}
use Rattle.parts.specs.declared.plan.Plan.{Plan}
use Rattle.machine.specs.declared.head.Head.{Head}
use Rattle.machine.specs.declared.head.Turned.{Turned}
use Rattle.machine.specs.declared.answer.Why.{Why}
use Rattle.machine.specs.declared.answer.Why.TheVariants.{BadState, Halted, SameTick, HalfAway, StaleTick, TicksLost, NoJob, PastHigh}
use Rattle.machine.specs.declared.tick.Tick.{Tick}
use Rattle.machine.specs.declared.tick.Tick.TheVariants.{Next, Same, Lost, Half, Stale}
use Rattle.parts.specs.Marks.{is_set}
use Rattle.machine.specs.Numbers.{Answer, halts_of}
use Rattle.parts.specs.Plan.{clo_of, is_high}
use Rattle.machine.specs.Run.{Run, joined, with_head, with_slot, with_last, with_ordered, with_high, with_halted, fresh_head}
use Rattle.parts.specs.Scan.{sizes_ok, byte_ok, tables_ok, edges_ok, jobs_ok, units_ok, named_in, bump, past_high, choice_in}
use Rattle.machine.specs.Tick.{tick_of}

-- an answer beside the run that it leaves
pub record Ran : Type 0 where
  pub answer : Answer
  pub run : Run

abbrev pub says : Answer → Run → Ran
says a r = record { answer = a; run = r }

-- the same of an answer with a head, and lists
abbrev pub ran : Turned → List ℕ → List ℕ → List ℕ → Ran
ran t u d c = says t.answer (joined t.head u d c)

-- and with what is lent
abbrev pub ran_with : Turned → Marks → Ran
ran_with t m = ran t m.units.now m.done.now m.cut.now

-- what the tick is refused for
unfoldable pub tick_test : Tick → Result Unit Why
tick_test Next = Ok tt
tick_test Same = Err SameTick
tick_test Lost = Err TicksLost
tick_test Half = Err HalfAway
tick_test Stale = Err StaleTick

-- what an order, and what a refusal leaves of a head: 31, 35 and 36 set the halted mark, the others change nothing
abbrev pub ordered_head : Head → ℕ → Turned
ordered_head h x = record { answer = Ok x; head = with_ordered h x }

abbrev pub refused_head : Why → Head → Turned
refused_head w h = record { answer = Err w; head = pick (halts_of w) (with_halted h 1) h }

-- a run that takes a tick
abbrev pub takes : Run → ℕ → Run
takes r tick = with_head r (with_last r.head tick)

-- what a refusal leaves of a run
abbrev pub halt_of : Run → Run
halt_of r = with_head r (with_halted r.head 1)

abbrev pub refused_run : Why → Run → Run
refused_run w r = pick (halts_of w) (halt_of r) r

module _ (lim : Limits) where
  -- 37, the plan's part: L, n and m, the tables, the edges, and the jobs' levels and budgets
  unfoldable pub plan_ok : Plan → Bool
  plan_ok p =
      all_of (
      sizes_ok lim p.counts.len p.counts.n p.counts.m ∷ tables_ok lim p.tables p.counts.len p.counts.n
      ∷ edges_ok p.edges p.counts.m p.counts.n ∷ jobs_ok lim p.jobs p.counts.n ∷ []
      )

  -- 37, the run's part: the slot, the job ordered last and the unit counts
  unfoldable pub run_ok : Counts → Head → List ℕ → Bool
  run_ok c h units = all_of (nat_lt h.slot c.len ∷ byte_ok c.n h.ordered ∷ units_ok lim units c.n ∷ [])

  -- 37 is given exactly where this is no
  unfoldable pub sound_on : Plan → Head → List ℕ → Bool
  sound_on p h units = plan_ok p && run_ok p.counts h units

  -- 34: an end signalled with no job ordered; 35: a high job, not ended, at or past CHI
  unfoldable pub end_test : List ℕ → ℕ → List ℕ → Bool → Result Unit Why
  end_test jobs j units e =
      need (not (j == idle && e)) NoJob ⨾ need (j == idle || not (past_high lim jobs units j e)) (PastHigh j)

  -- 32, tick, 34, 35
  unfoldable pub live_test : List ℕ → Head → List ℕ → ℕ → Bool → Result Unit Why
  live_test jobs h units tick e =
      need (not (is_set h.halted)) Halted ⨾ tick_test (tick_of h.last tick) ⨾ end_test jobs h.ordered units e

  -- the units of the job ordered last, with the last slot's
  abbrev pub units_of : Run → ℕ
  units_of r = bump lim (slice_index r.units r.head.ordered)

  -- it has not ended, and is at or past CLO
  abbrev pub past_low : List ℕ → Run → Bool → Bool
  past_low jobs r e = not e && nat_le (clo_of jobs r.head.ordered) (units_of r)

  -- the last slot booked to it: one unit; ended; or a high job past CLO in LO switches; or a low job past CLO is cut
  unfoldable pub book_job : List ℕ → Run → Bool → Run
  book_job jobs r e =
      record {
        head = with_high r.head (pick (past_low jobs r e && is_high jobs r.head.ordered && not (is_set r.head.high)) 1 r.head.high);
        units = slice_set r.units r.head.ordered (units_of r);
        done = pick e (slice_set r.done r.head.ordered 1) r.done;
        cut = pick (past_low jobs r e && not (is_high jobs r.head.ordered)) (slice_set r.cut r.head.ordered 1) r.cut;
      }

  -- the last slot, if a job was ordered, is booked
  unfoldable pub book_of : List ℕ → Run → Bool → Run
  book_of jobs r e = pick (r.head.ordered == idle) r (book_job jobs r e)

  -- the next frame, fresh in LO
  abbrev pub open_frame_of : Run → Run
  open_frame_of r =
      joined (with_high (with_slot r.head 0) 0) (replicate lim.jobs 0) (replicate lim.jobs 0) (replicate lim.jobs 0)

  -- the tick is taken: the next slot, or after slot L-1 the next frame
  unfoldable pub move_of : ℕ → Run → ℕ → Run
  move_of len r tick =
      takes (pick (nat_lt (r.head.slot + 1) len) (with_head r (with_slot r.head (r.head.slot + 1))) (open_frame_of r)) tick

  -- at opening, nothing has run
  unfoldable pub fresh_run : ℕ → ℕ → Run
  fresh_run len first = joined (fresh_head len first) (replicate lim.jobs 0) (replicate lim.jobs 0) (replicate lim.jobs 0)

  module _ (p : Plan) where
    -- steps go 37, 32, tick, 34, 35
    unfoldable pub test_of : Run → ℕ → Bool → Result Unit Why
    test_of r tick e = need (sound_on p r.head r.units) BadState ⨾ live_test p.jobs r.head r.units tick e

    -- the order: the job that the mode's table names at the slot, if it may run, else idle
    abbrev pub named_of : Run → ℕ
    named_of r = named_in lim p.tables r.head.slot r.head.high

    abbrev pub choice_of : Run → ℕ
    choice_of r =
        choice_in p.counts.m p.jobs p.edges (named_of r) r.head.slot r.head.high r.done r.cut

    unfoldable pub order_of : Run → Ran
    order_of r = says (Ok (choice_of r)) (with_head r (with_ordered r.head (choice_of r)))

    -- the last slot is booked, the tick taken, and the next slot has its order
    unfoldable pub next_of : Run → ℕ → Bool → Ran
    next_of r tick e = order_of (move_of p.counts.len (book_of p.jobs r e) tick)

    -- the next slot, or a refusal
    unfoldable pub answer_of : Run → ℕ → Bool → Result Unit Why → Ran
    answer_of r tick e (Ok x) = next_of r tick e
    answer_of r tick e (Err w) = says (Err w) (refused_run w r)

    unfoldable pub step_on : Run → ℕ → Bool → Ran
    step_on r tick e = answer_of r tick e (test_of r tick e)
