-- Adding any number modulo 65536 to the last tick taken and to every tick changes no answer and no other field.
-- Assumes nothing.
use Prim.Native.Nat.{ℕ, ◌+◌, ◌-◌, ◌%◌, ◌<◌}
use mathlib.Core.Path.{◌≡◌, refl, ap, ◌∙◌}
use mathlib.Core.Bool.{Bool, true, false}
use mathlib.Core.List.{List, [], ◌∷◌, map}
use native.Mathlib.Omega.{arith}
use lib.Dec.{ltb}
use Rattle.std.specs.Prelude.{Result, Ok, Err}
use Rattle.basics.specs.Choice.{pick}
use Rattle.basics.specs.Limits.{Limits}
use Rattle.machine.specs.Run.{Run, with_head, with_slot}
use Rattle.parts.specs.declared.plan.Plan.{Plan}
use Rattle.dispatch.specs.declared.state.State.{State}
use Rattle.machine.specs.declared.answer.Why.{Why}
use Rattle.machine.specs.Numbers.{Answer, halts_of}
use Rattle.machine.specs.Tick.{difference, tick_of}
use Rattle.machine.specs.Machine.{Ran, says, takes, halt_of, run_ok, sound_on, live_test, book_job, book_of, open_frame_of, move_of, order_of, test_of, next_of, answer_of, step_on}
use Rattle.dispatch.specs.State.{run_of, beside, step_of}
use Rattle.dispatch.specs.Runs.{Given, Each, answers_by, state_by, answers_of, state_of, later_given, later_run, later_state}
use Rattle.basics.proofs.Choice.{pick_map}
use Rattle.dispatch.proofs.Did.{refused_has, Did, refused, taken, did}

-- a tick d later on a state d later says the same
pub tick_later : (d last tick : ℕ) → last < 65536 → tick < 65536 → tick_of ((last + d) % 65536) ((tick + d) % 65536) ≡ tick_of last tick
unfolding tick_of difference
tick_later d last tick a b =
    let q : ((tick + d) % 65536 + (65536 - (last + d) % 65536)) % 65536 ≡ (tick + (65536 - last)) % 65536 = omega arith in
    rw (q)

module _ (lim : Limits) (d : ℕ) where
  -- the same answer, and the run d later
  abbrev pub later : Ran → Ran
  later x = says x.answer (later_run d x.run)

  move_later : (len : ℕ) (r : Run) (tick : ℕ) → move_of lim len (later_run d r) ((tick + d) % 65536) ≡ later_run d (move_of lim len r tick)
  unfolding move_of pick
  move_later len r tick = by_test (ltb (r.head.slot + 1) len)
    where
      t : ℕ
      t = (tick + d) % 65536

      by_test : (b : Bool)
          → takes (pick b (with_head (later_run d r) (with_slot (later_run d r).head (r.head.slot + 1))) (open_frame_of lim (later_run d r))) t
          ≡ later_run d (takes (pick b (with_head r (with_slot r.head (r.head.slot + 1))) (open_frame_of lim r)) tick)
      by_test true = refl
      by_test false = refl

  book_later : (jobs : List ℕ) (r : Run) (e : Bool) → book_of lim jobs (later_run d r) e ≡ later_run d (book_of lim jobs r e)
  unfolding book_of book_job
  book_later jobs r e = pick_map (later_run d) _ _ _ refl refl

  module _ (p : Plan) (r : Run) (tick : ℕ) (e : Bool) where
    answer_later : (t : Result Unit Why) → answer_of lim p (later_run d r) ((tick + d) % 65536) e t ≡ later (answer_of lim p r tick e t)
    unfolding answer_of next_of order_of
    answer_later (Ok x) = rw (book_later p.jobs r e, move_later p.counts.len (book_of lim p.jobs r e) tick)
    answer_later (Err w) = ap (says (Err w)) (pick_map (later_run d) (halts_of w) (halt_of r) r refl refl)

    -- a step
    pub step_later : r.head.last < 65536 → tick < 65536 → step_on lim p (later_run d r) ((tick + d) % 65536) e ≡ later (step_on lim p r tick e)
    unfolding step_on test_of sound_on live_test run_ok
    step_later a b = rw (tick_later d r.head.last tick a b) (answer_later _)

  -- the last tick of 16 bits stays one
  last_fits : (p : Plan) (r : Run) (tick : ℕ) (e : Bool) → r.head.last < 65536 → tick < 65536 → (step_on lim p r tick e).run.head.last < 65536
  unfolding order_of move_of
  last_fits p r tick e a b = go (step_on lim p r tick e) (did lim p r tick e)
    where
      go : (x : Ran) → Did lim p r tick e x → x.run.head.last < 65536
      go x (refused {w = w} y) = refused_has (λ t. t.head.last < 65536) w r a a
      go x (taken v q c) = b

  -- and a run
  pub shift : (s : State) → s.head.last < 65536 → (r : List Given) → Each (λ g. g.tick < 65536) r
      → (answers_of lim (later_state d s) (map (later_given d) r) ≡ answers_of lim s r)
      × (state_of lim (later_state d s) (map (later_given d) r) ≡ later_state d (state_of lim s r))
  unfolding answers_by state_by
  shift s a [] n = (refl, refl)
  shift s a (g ∷ r) n =
      let q = step_later s.plan (run_of s) g.tick g.ended a n.0 in
      let i = shift (step_of lim s g.tick g.ended).state (last_fits s.plan (run_of s) g.tick g.ended a n.0) r n.1 in (
        ap (λ (x : Ran). x.answer ∷ answers_of lim (beside s.plan x).state (map (later_given d) r)) q
            ∙ ap (λ (l : List Answer). (step_of lim s g.tick g.ended).answer ∷ l) i.0,
        ap (λ (x : Ran). state_of lim (beside s.plan x).state (map (later_given d) r)) q ∙ i.1,
      )
