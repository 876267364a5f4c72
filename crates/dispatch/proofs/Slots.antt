-- The slot after k next ticks, for every k; and on next ticks, whatever their numbers, only 34 and 35 refuse.
-- Assumes nothing.
use Prim.Native.Nat.{ℕ, suc, ◌+◌, ◌-◌, ◌%◌, ◌≤◌, ◌<◌}
use mathlib.Core.Path.{◌≡◌, refl, sym, ap, ◌∙◌}
use mathlib.Core.Logic.{inl, inr}
use mathlib.Core.Bool.{Bool, true, false}
use mathlib.Core.List.{List, [], ◌∷◌}
use native.Mathlib.Omega.{arith}
use native.Mathlib.Nat.{mod-eq_of_lt, mod_self, mod-add-mod, add-mod_right}
use lib.ListN.{length}
use lib.Dec.{ltb}
use borrow.Author.Tests.{ltb-true, ltb-false}
use Rattle.basics.specs.Choice.{pick}
use Rattle.basics.specs.Limits.{Limits}
use Rattle.basics.proofs.Tests.{not_both}
use Rattle.basics.proofs.Choice.{pick_both}
use Rattle.machine.specs.Run.{Run, with_head, with_slot, fresh_head}
use Rattle.parts.specs.declared.plan.Plan.{Plan}
use Rattle.dispatch.specs.declared.state.State.{State}
use Rattle.machine.specs.declared.answer.Why.{Why}
use Rattle.machine.specs.declared.answer.Why.TheVariants.{BadState, Halted, SameTick, HalfAway, StaleTick, TicksLost, NoJob, PastHigh}
use Rattle.machine.specs.declared.tick.Tick.TheVariants.{Next}
use Rattle.parts.specs.Marks.{is_set}
use Rattle.machine.specs.Tick.{difference, tick_of}
use Rattle.machine.specs.Machine.{Ran, plan_ok, book_job, open_frame_of, move_of, fresh_run, order_of, step_on}
use Rattle.dispatch.specs.State.{run_of, state_with, state_ok, fresh_of, step_of}
use Rattle.machine.specs.Numbers.{Answer, number_of, answer_number}
use Rattle.dispatch.specs.Runs.{Given, Each, answers_by, state_by, answers_of, state_of, next_ticks, OnlyJobsRefused}
use Rattle.machine.proofs.Facts.{state_facts}
use Rattle.machine.proofs.Ticks.{covered_said}
use Rattle.dispatch.proofs.Did.{sound_run, is_bad, is_halted, is_same, is_half, is_stale, is_lost, has_no_job, is_past, Did, refused, taken, was_idle, was_job, did}
use Rattle.dispatch.proofs.Sound.{sound_stays, fresh_sound}

-- a refusal has a number
pub refused_number : (w : Why) → number_of w ≡ 0 → ⊥
refused_number BadState h = omega arith
refused_number Halted h = omega arith
refused_number SameTick h = omega arith
refused_number HalfAway h = omega arith
refused_number StaleTick h = omega arith
refused_number TicksLost h = omega arith
refused_number NoJob h = omega arith
refused_number (PastHigh j) h = omega arith

-- the tick after f - 1 is next, also where that is 0 after 65535
pub next_is_next : (f last : ℕ) → last ≡ (f + 65535) % 65536 → tick_of last (f % 65536) ≡ Next
unfolding difference
next_is_next f last h = covered_said last (f % 65536) Next (omega arith)

module _ (lim : Limits) where
  -- one slot more, modulo L
  move_next : (len : ℕ) (r : Run) (t : ℕ) → r.head.slot < len → (move_of lim len r t).head.slot ≡ (r.head.slot + 1) % len
  unfolding move_of pick
  move_next len r t l = by_test (ltb (r.head.slot + 1) len) refl
    where
      by_test : (b : Bool) → ltb (r.head.slot + 1) len ≡ b
          → (pick b (with_head r (with_slot r.head (r.head.slot + 1))) (open_frame_of lim r)).head.slot ≡ (r.head.slot + 1) % len
      by_test true q = sym (mod-eq_of_lt (ltb-true _ _ q))
      by_test false q =
          let h : len ≤ r.head.slot + 1 = ltb-false _ _ q in
          let w : r.head.slot + 1 ≡ len = omega arith in
          rw (w) (sym (mod_self _))

  module _ (p : Plan) (r : Run) (tick : ℕ) (e : Bool) where
    -- a step that gives an order was sound and moved on
    pub ordered_moves : answer_number (step_on lim p r tick e).answer ≡ 0
        → (sound_run lim p r ≡ true) × ((step_on lim p r tick e).run.head.slot ≡ (r.head.slot + 1) % p.counts.len)
    unfolding order_of book_job
    ordered_moves = go (step_on lim p r tick e) (did lim p r tick e)
      where
        go : (x : Ran) → Did lim p r tick e x → answer_number x.answer ≡ 0
            → (sound_run lim p r ≡ true) × (x.run.head.slot ≡ (r.head.slot + 1) % p.counts.len)
        go x (refused {w = w} y) h = absurd (refused_number w h)
        go x (taken v q was_idle) h = (v.0, move_next p.counts.len r tick (state_facts lim p r.head r.units v.0).slot_low)
        go x (taken v q (was_job ne)) h = (v.0, move_next p.counts.len (book_job lim p.jobs r e) tick (state_facts lim p r.head r.units v.0).slot_low)

  abbrev NoneRefused : List Answer → Type 0
  NoneRefused l = Each (λ a. answer_number a ≡ 0) l

  slots_run : (r : List Given) (s : State) (k : ℕ) → s.head.slot ≡ k % s.plan.counts.len → NoneRefused (answers_of lim s r)
      → (state_of lim s r).head.slot ≡ (k + length r) % s.plan.counts.len
  unfolding answers_by state_by
  slots_run [] s k h n = h ∙ ap (λ i. i % s.plan.counts.len) (let z : k ≡ k + 0 = omega arith in z)
  slots_run (g ∷ r) s k h n =
      let m = (ordered_moves s.plan (run_of s) g.tick g.ended n.0).1 in
      let i = slots_run r (step_of lim s g.tick g.ended).state (k + 1)
      (m ∙ ap (λ i. (i + 1) % s.plan.counts.len) h ∙ mod-add-mod k s.plan.counts.len 1) n.1 in
      i ∙ ap (λ i. i % s.plan.counts.len) (let z : k + 1 + length r ≡ k + suc (length r) = omega arith in z)

  -- after k steps from opening, none of them refused, the slot is that of k - 1 modulo L
  pub slot_after_run : (p : Plan) (f : ℕ) (r : List Given) → 1 ≤ length r → NoneRefused (answers_of lim (fresh_of lim p f) r)
      → (state_of lim (fresh_of lim p f) r).head.slot ≡ (length r - 1) % p.counts.len
  unfolding answers_by state_by fresh_of fresh_run fresh_head
  slot_after_run p f [] l n = absurd (omega arith)
  slot_after_run p f (g ∷ r) l n =
      let v = (ordered_moves p (fresh_run lim p.counts.len f) g.tick g.ended n.0).0 in
      let w = (state_facts lim p (fresh_head p.counts.len f) _ v).plan.len_low in
      slots_run (g ∷ r) (fresh_of lim p f) (p.counts.len - 1) (sym (mod-eq_of_lt (omega arith))) n
      ∙ ap (λ i. i % p.counts.len) (let z : p.counts.len - 1 + suc (length r) ≡ length r + p.counts.len = omega arith in z)
      ∙ add-mod_right (length r) p.counts.len ∙ ap (λ i. i % p.counts.len) (let z : length r ≡ suc (length r) - 1 = omega arith in z)

  next_many : (f : ℕ) (es : List Bool) → length (next_ticks f es) ≡ length es
  unfolding next_ticks
  next_many f [] = refl
  next_many f (e ∷ es) = ap suc (next_many (f + 1) es)

  -- after k next ticks f, f + 1, .. modulo 65536
  pub slot_after : (p : Plan) (f : ℕ) (es : List Bool) → 1 ≤ length es → NoneRefused (answers_of lim (fresh_of lim p f) (next_ticks f es))
      → (state_of lim (fresh_of lim p f) (next_ticks f es)).head.slot ≡ (length es - 1) % p.counts.len
  slot_after p f es l n =
      rw (← next_many f es) (slot_after_run p f (next_ticks f es) (rw (next_many f es) l) n)

  -- a live state whose last tick is f - 1
  record Before (f : ℕ) (s : State) : Type 0 where
    ok : state_ok lim s ≡ true
    live : is_set s.head.halted ≡ false
    at : s.head.last ≡ (f + 65535) % 65536

  move_live : (len : ℕ) (r : Run) (t : ℕ) → (move_of lim len r t).head.halted ≡ r.head.halted
  unfolding move_of
  move_live len r t = pick_both (λ (x : Run). x.head.halted ≡ r.head.halted) _ _ _ refl refl

  jobs_run : (es : List Bool) (f : ℕ) (s : State) → Before f s → OnlyJobsRefused (answers_of lim s (next_ticks f es))
  unfolding answers_by next_ticks order_of book_job move_of
  jobs_run [] f s b = tt
  jobs_run (e ∷ es) f s b =
      go (step_on lim s.plan (run_of s) (f % 65536) e) (did lim s.plan (run_of s) (f % 65536) e) (sound_stays lim s (f % 65536) e b.ok) (λ t c. jobs_run es (f + 1) t c)
    where
      next : tick_of s.head.last (f % 65536) ≡ Next
      next = next_is_next f s.head.last b.at

      go : (x : Ran) → Did lim s.plan (run_of s) (f % 65536) e x → sound_run lim s.plan x.run ≡ true
          → ((t : State) → Before (f + 1) t → OnlyJobsRefused (answers_of lim t (next_ticks (f + 1) es)))
          → OnlyJobsRefused (x.answer ∷ answers_of lim (state_with s.plan x.run) (next_ticks (f + 1) es))
      go x (refused (is_bad u)) v more = absurd (not_both b.ok u)
      go x (refused (is_halted u k)) v more = absurd (not_both k b.live)
      go x (refused (is_same u k)) v more = let z : ◌≡◌ {A = ℕ} 0 1 = cc (next) in absurd (omega arith)
      go x (refused (is_half u k)) v more = let z : ◌≡◌ {A = ℕ} 0 1 = cc (next) in absurd (omega arith)
      go x (refused (is_stale u k)) v more = let z : ◌≡◌ {A = ℕ} 0 1 = cc (next) in absurd (omega arith)
      go x (refused (is_lost u k)) v more = let z : ◌≡◌ {A = ℕ} 0 1 = cc (next) in absurd (omega arith)
      go x (refused (has_no_job u q i k)) v more = inl refl
      go x (refused (is_past u q n k)) v more = inr refl
      go x (taken u q was_idle) v more =
          more _ record { ok = v; live = ap is_set (move_live s.plan.counts.len (run_of s) (f % 65536)) ∙ b.live; at = omega arith }
      go x (taken u q (was_job ne)) v more =
          more _ record { ok = v; live = ap is_set (move_live s.plan.counts.len (book_job lim s.plan.jobs (run_of s) e) (f % 65536)) ∙ b.live; at = omega arith }

  -- on next ticks from opening on a sound plan the first refusal, if there is one, is 34 or 35
  pub only_jobs_refuse : (p : Plan) → plan_ok lim p ≡ true → (f : ℕ) (es : List Bool)
      → OnlyJobsRefused (answers_of lim (fresh_of lim p f) (next_ticks f es))
  unfolding fresh_of fresh_run fresh_head difference is_set
  only_jobs_refuse p h f es = jobs_run es f _ record { ok = fresh_sound lim p f h; live = refl; at = omega arith }
