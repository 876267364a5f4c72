-- A step keeps a sound state sound; a fresh state of a sound plan is sound; so no run on it ever answers 37.
-- Assumes nothing.
use Prim.Native.Nat.{ℕ, ◌+◌, ◌≤◌, ◌<◌}
use mathlib.Core.Path.{◌≡◌, refl}
use mathlib.Core.Bool.{Bool, true, false}
use mathlib.Core.List.{List, [], ◌∷◌}
use native.Mathlib.Omega.{arith}
use lib.ListN.{get_or, replicate}
use lib.Dec.{ltb}
use borrow.Author.Tests.{ltb-true, leb-true, le-leb}
use Rattle.basics.specs.Choice.{pick}
use Rattle.basics.specs.Limits.{Limits}
use Rattle.basics.proofs.Tests.{not_both}
use Rattle.basics.proofs.Choice.{pick_both}
use Rattle.basics.proofs.Below.{all_at, all_each}
use Rattle.basics.specs.Marks.{idle}
use Rattle.machine.specs.Run.{Run, with_head, with_slot, with_last, with_high, fresh_head}
use Rattle.parts.specs.declared.plan.Plan.{Plan}
use Rattle.dispatch.specs.declared.state.State.{State}
use Rattle.parts.specs.Scan.{byte_ok, units_ok, bump, choice_in}
use Rattle.machine.specs.Machine.{Ran, takes, run_ok, plan_ok, sound_on, book_job, open_frame_of, move_of, fresh_run, order_of, step_on}
use Rattle.dispatch.specs.State.{run_of, state_ok, fresh_of, step_of}
use Rattle.machine.specs.Numbers.{answer_number}
use Rattle.dispatch.specs.Runs.{Given, Each, answers_by, answers_of}
use Rattle.basics.proofs.At.{set_each, zeros_at}
use Rattle.machine.proofs.Facts.{plan_facts, state_facts, state_sound, named_ok, job_below}
use Rattle.dispatch.proofs.Did.{sound_run, refused_has, is_bad, is_halted, is_same, is_half, is_stale, is_lost, has_no_job, is_past, Did, refused, taken, Booked, was_idle, was_job, did}

module _ (lim : Limits) where
  units_zero : (k n : ℕ) → units_ok lim (replicate k 0) n ≡ true
  unfolding units_ok
  units_zero k n = all_each _ n (λ i l. le-leb (get_or (replicate k 0) i 0) lim.budget (omega (arith, zeros_at k i)))

  bump_top : (u : ℕ) → u ≤ lim.budget → bump lim u ≤ lim.budget
  unfolding bump pick
  bump_top u h = by_test (ltb u lim.budget) refl
    where
      by_test : (b : Bool) → ltb u lim.budget ≡ b → pick b (u + 1) u ≤ lim.budget
      by_test true q = let l : u < lim.budget = ltb-true _ _ q in omega arith
      by_test false q = h

  module _ (p : Plan) (r : Run) (v : sound_run lim p r ≡ true) where
    book_sound : (e : Bool) → (r.head.ordered ≡ idle → ⊥) → sound_run lim p (book_job lim p.jobs r e) ≡ true
    unfolding book_job units_ok
    book_sound e ne =
        let f = state_facts lim p r.head r.units v in
        let j = job_below _ _ f.ordered_ok ne in
        let at : (i : ℕ) → i < p.counts.n → get_or r.units i 0 ≤ lim.budget = λ i l. leb-true _ _ (all_at _ _ i f.units_fine l) in
        state_sound lim p (book_job lim p.jobs r e).head (book_job lim p.jobs r e).units f.plan_fine f.slot_low f.ordered_ok
        (all_each _ _ (λ i l. le-leb _ _ (set_each (λ x. x ≤ lim.budget) r.units r.head.ordered _ i (bump_top _ (at _ j)) (at i l))))

    move_sound : (t : ℕ) → sound_run lim p (move_of lim p.counts.len r t) ≡ true
    unfolding move_of pick
    move_sound t = by_test (ltb (r.head.slot + 1) p.counts.len) refl
      where
        by_test : (b : Bool) → ltb (r.head.slot + 1) p.counts.len ≡ b
            → sound_run lim p (takes (pick b (with_head r (with_slot r.head (r.head.slot + 1))) (open_frame_of lim r)) t) ≡ true
        by_test true q =
            let f = state_facts lim p r.head r.units v in
            state_sound lim p (with_last (with_slot r.head (r.head.slot + 1)) t) r.units f.plan_fine (ltb-true _ _ q) f.ordered_ok f.units_fine
        by_test false q =
            let f = state_facts lim p r.head r.units v in
            state_sound lim p (with_last (with_high (with_slot r.head 0) 0) t) (replicate lim.jobs 0) f.plan_fine f.plan.len_low f.ordered_ok (units_zero lim.jobs p.counts.n)

    order_sound : sound_run lim p (order_of lim p r).run ≡ true
    unfolding order_of choice_in byte_ok
    order_sound =
        let f = state_facts lim p r.head r.units v in
        let P : ℕ → Type 0 = λ x. byte_ok p.counts.n x ≡ true in
        state_sound lim p (order_of lim p r).run.head r.units f.plan_fine f.slot_low
        (pick_both P _ _ _ refl (pick_both P _ _ _ (named_ok lim p f.plan _ r.head.high f.slot_low) refl)) f.units_fine

  -- a step keeps a sound run sound
  pub run_sound : (p : Plan) (r : Run) (tick : ℕ) (e : Bool) → sound_run lim p r ≡ true → sound_run lim p (step_on lim p r tick e).run ≡ true
  unfolding sound_on run_ok
  run_sound p r tick e v = go (step_on lim p r tick e) (did lim p r tick e)
    where
      booked : (b : Run) → Booked lim p r tick e b → sound_run lim p b ≡ true
      booked b was_idle = v
      booked b (was_job ne) = book_sound p r v e ne

      go : (x : Ran) → Did lim p r tick e x → sound_run lim p x.run ≡ true
      go x (refused {w = w} y) = refused_has (λ t. sound_run lim p t ≡ true) w r v v
      go x (taken a b c) = order_sound p _ (move_sound p _ (booked _ c) tick)

  -- and a sound state sound
  pub sound_stays : (s : State) (tick : ℕ) (e : Bool) → state_ok lim s ≡ true → state_ok lim (step_of lim s tick e).state ≡ true
  sound_stays s tick e v = run_sound s.plan (run_of s) tick e v

  -- the state of a sound plan, fresh
  pub fresh_sound : (p : Plan) (first : ℕ) → plan_ok lim p ≡ true → state_ok lim (fresh_of lim p first) ≡ true
  unfolding fresh_of fresh_run fresh_head byte_ok
  fresh_sound p first h =
      let f = plan_facts lim p h in
      state_sound lim p (fresh_head p.counts.len first) (replicate lim.jobs 0) h (omega (arith, f.len_low)) refl (units_zero lim.jobs p.counts.n)

  -- a sound state does not answer 37
  sound_answer : (s : State) (tick : ℕ) (e : Bool) → state_ok lim s ≡ true → answer_number (step_of lim s tick e).answer ≡ 37 → ⊥
  unfolding order_of
  sound_answer s tick e v = go (step_on lim s.plan (run_of s) tick e) (did lim s.plan (run_of s) tick e)
    where
      go : (x : Ran) → Did lim s.plan (run_of s) tick e x → answer_number x.answer ≡ 37 → ⊥
      go x (refused (is_bad u)) h = not_both v u
      go x (refused (is_halted u k)) h = omega arith
      go x (refused (is_same u k)) h = omega arith
      go x (refused (is_half u k)) h = omega arith
      go x (refused (is_stale u k)) h = omega arith
      go x (refused (is_lost u k)) h = omega arith
      go x (refused (has_no_job u q i k)) h = omega arith
      go x (refused (is_past u q n k)) h = omega arith
      go x (taken a b c) h = omega arith

  -- no run on a sound state answers 37
  pub never_37 : (s : State) → state_ok lim s ≡ true → (r : List Given) → Each (λ a. answer_number a ≡ 37 → ⊥) (answers_of lim s r)
  unfolding answers_by
  never_37 s v [] = tt
  never_37 s v (g ∷ r) =
      (sound_answer s g.tick g.ended v, never_37 (step_of lim s g.tick g.ended).state (sound_stays s g.tick g.ended v) r)
