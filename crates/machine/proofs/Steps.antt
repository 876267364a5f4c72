-- The tests of a step, one after the other, and the step at what they say.
-- Assumes nothing.
use Rattle.std.proofs.Common.{◌≡◌, ℕ, Bool, true, false, not, Result, Ok, Err, List, sym, refl, ap, ◌∙◌}
use Rattle.basics.specs.Chain.{◌⨾◌, need}
use Rattle.basics.specs.Choice.{pick}
use Rattle.basics.specs.Limits.{Limits}
use Rattle.basics.proofs.Choice.{pick_map}
use Rattle.machine.specs.declared.head.Head.{Head}
use Rattle.machine.specs.declared.head.Turned.{Turned}
use Rattle.parts.specs.declared.plan.Plan.{Plan}
use Rattle.machine.specs.declared.answer.Why.{Why}
use Rattle.machine.specs.declared.answer.Why.TheVariants.{BadState, Halted, HalfAway}
use Rattle.machine.specs.declared.tick.Tick.TheVariants.{Half}
use Rattle.parts.specs.Marks.{is_set}
use Rattle.machine.specs.Numbers.{halts_of}
use Rattle.machine.specs.Run.{Run, joined, with_halted}
use Rattle.parts.specs.Scan.{named_in, choice_in}
use Rattle.machine.specs.Tick.{difference, tick_of}
use Rattle.machine.specs.Machine.{Ran, ran, says, tick_test, sound_on, end_test, live_test, ordered_head, refused_head, halt_of, refused_run, book_of, move_of, order_of, test_of, next_of, answer_of, step_on}
use Rattle.machine.proofs.Ticks.{covered_said}

-- a test that fails refuses, and one that holds is passed over
pub stops : (b : Bool) (w : Why) (t : Result Unit Why) → b ≡ false → need b w ⨾ t ≡ Err w
stops b w t h = rw (h)

pub goes_on : (b : Bool) (w : Why) (t : Result Unit Why) → b ≡ true → need b w ⨾ t ≡ t
goes_on b w t h = rw (h)

module _ (lim : Limits) (p : Plan) (r : Run) (tick : ℕ) (e : Bool) where
  pub step_bad : sound_on lim p r.head r.units ≡ false → step_on lim p r tick e ≡ says (Err BadState) r
  unfolding step_on test_of answer_of pick
  step_bad v = ap (answer_of lim p r tick e) (stops _ BadState _ v)

  -- what is left to test
  pub step_sound : sound_on lim p r.head r.units ≡ true → step_on lim p r tick e ≡ answer_of lim p r tick e (live_test lim p.jobs r.head r.units tick e)
  unfolding step_on test_of
  step_sound v = ap (answer_of lim p r tick e) (goes_on _ BadState _ v)

  pub step_halted : sound_on lim p r.head r.units ≡ true → is_set r.head.halted ≡ true → step_on lim p r tick e ≡ says (Err Halted) r
  unfolding answer_of live_test pick
  step_halted v h = step_sound v ∙ ap (answer_of lim p r tick e) (stops _ Halted _ (ap not h))

  -- what the tick is refused for is the answer, whatever is signalled: an end is dropped with its tick
  pub step_refuses_tick : sound_on lim p r.head r.units ≡ true → is_set r.head.halted ≡ false → (w : Why)
      → tick_test (tick_of r.head.last tick) ≡ Err w → step_on lim p r tick e ≡ says (Err w) (refused_run w r)
  unfolding answer_of live_test
  step_refuses_tick v h w q =
      step_sound v ∙ ap (answer_of lim p r tick e) (goes_on _ Halted _ (ap not h) ∙ ap (λ t. t ⨾ end_test lim p.jobs r.head.ordered r.units e) q)

  -- half the counter away: 36, and the halted mark is all that changes
  pub step_half : sound_on lim p r.head r.units ≡ true → is_set r.head.halted ≡ false
      → difference tick r.head.last ≡ 32768 → step_on lim p r tick e ≡ says (Err HalfAway) (halt_of r)
  unfolding tick_test pick
  step_half v h q = step_refuses_tick v h HalfAway (ap tick_test (covered_said r.head.last tick Half q))

-- booked, moved on and ordered, one after the other
pub next_is : (lim : Limits) (p : Plan) (r b : Run) (h : Head) (us ds cs : List ℕ) (tick : ℕ) (e : Bool) (x : ℕ) (t : Turned)
    → b ≡ book_of lim p.jobs r e → joined h us ds cs ≡ move_of lim p.counts.len b tick → x ≡ named_in lim p.tables h.slot h.high
    → t ≡ ordered_head h (choice_in p.counts.m p.jobs p.edges x h.slot h.high ds cs) → ran t us ds cs ≡ next_of lim p r tick e
unfolding next_of order_of
next_is lim p r b h us ds cs tick e x t qb qm q k =
    let z : ran t us ds cs ≡ order_of lim p (joined h us ds cs) = rw (k, q) in
    z ∙ ap (order_of lim p) (qm ∙ ap (λ (y : Run). move_of lim p.counts.len y tick) qb)

-- The same of a head and lists, as the code has them.
module _ (lim : Limits) (p : Plan) (h : Head) (us ds cs : List ℕ) (tick : ℕ) (e : Bool) where
  abbrev r : Run
  r = joined h us ds cs

  -- a refused head is a refused run
  refused_ran : (w : Why) (t : Turned) → t ≡ refused_head w h → ran t us ds cs ≡ says (Err w) (refused_run w r)
  refused_ran w t q =
      ap (λ (x : Turned). ran x us ds cs) q
      ∙ ap (says (Err w)) (sym (pick_map (λ (x : Head). joined x us ds cs) (halts_of w) (with_halted h 1) h refl refl))

  -- 37
  pub step_refuses_37 : (t : Turned) → t ≡ refused_head BadState h → sound_on lim p r.head r.units ≡ false → ran t us ds cs ≡ step_on lim p r tick e
  unfolding pick
  step_refuses_37 t q v = refused_ran BadState t q ∙ sym (step_bad lim p r tick e v)

  module _ (v : sound_on lim p r.head r.units ≡ true) where
    tests_say : (t : Result Unit Why) → t ≡ live_test lim p.jobs h us tick e → answer_of lim p r tick e t ≡ step_on lim p r tick e
    tests_say t q = ap (answer_of lim p r tick e) q ∙ sym (step_sound lim p r tick e v)

    -- the step at another refusal, and at none
    pub step_refuses : (w : Why) (t : Turned) → Err w ≡ live_test lim p.jobs h us tick e → t ≡ refused_head w h → ran t us ds cs ≡ step_on lim p r tick e
    unfolding answer_of
    step_refuses w t q k = refused_ran w t k ∙ tests_say (Err w) q

    pub step_goes : (y : Ran) → Ok tt ≡ live_test lim p.jobs h us tick e → y ≡ next_of lim p r tick e → y ≡ step_on lim p r tick e
    unfolding answer_of
    step_goes y q k = k ∙ tests_say (Ok tt) q
