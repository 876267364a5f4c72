-- What a step did: it refused, for a reason, and left what the refusal leaves; or it booked, took the tick and ordered.
-- Assumes nothing.
use Prim.Native.Nat.{ℕ}
use mathlib.Core.Path.{◌≡◌, refl}
use mathlib.Core.Bool.{Bool, true, false, not, ◌&&◌, ◌||◌}
use lib.Dec.{eqb}
use borrow.Author.Tests.{eqb-true, eqb-false}
use Rattle.std.specs.Prelude.{Err}
use Rattle.basics.specs.Chain.{◌⨾◌, need}
use Rattle.basics.specs.Choice.{pick}
use Rattle.basics.specs.Limits.{Limits}
use Rattle.basics.specs.Marks.{idle}
use Rattle.basics.proofs.Choice.{pick_both}
use Rattle.machine.specs.Run.{Run}
use Rattle.parts.specs.declared.plan.Plan.{Plan}
use Rattle.machine.specs.declared.answer.Why.{Why}
use Rattle.machine.specs.declared.answer.Why.TheVariants.{BadState, Halted, SameTick, HalfAway, StaleTick, TicksLost, NoJob, PastHigh}
use Rattle.machine.specs.declared.tick.Tick.{Tick}
use Rattle.machine.specs.declared.tick.Tick.TheVariants.{Next, Same, Lost, Half, Stale}
use Rattle.parts.specs.Marks.{is_set}
use Rattle.machine.specs.Numbers.{halts_of}
use Rattle.parts.specs.Scan.{past_high}
use Rattle.machine.specs.Tick.{tick_of}
use Rattle.machine.specs.Machine.{Ran, says, tick_test, halt_of, refused_run, sound_on, end_test, live_test, book_job, book_of, move_of, order_of, test_of, next_of, answer_of, step_on}

-- what a run has, and has halted, it has after any refusal
pub refused_has : (P : Run → Type 0) (w : Why) (r : Run) → P r → P (halt_of r) → P (refused_run w r)
refused_has P w r a b = pick_both P (halts_of w) _ _ b a

-- row 37's test of a run
abbrev pub sound_run : Limits → Plan → Run → Bool
sound_run lim p r = sound_on lim p r.head r.units

module _ (lim : Limits) (p : Plan) (r : Run) (tick : ℕ) (e : Bool) where
  -- sound and not halted
  abbrev pub Live : Type 0
  Live = (sound_run lim p r ≡ true) × (is_set r.head.halted ≡ false)

  -- when each refusal is given
  pub data Reason : Why → Type 0 where
    is_bad : sound_run lim p r ≡ false → Reason BadState
    is_halted : sound_run lim p r ≡ true → is_set r.head.halted ≡ true → Reason Halted
    is_same : Live → tick_of r.head.last tick ≡ Same → Reason SameTick
    is_half : Live → tick_of r.head.last tick ≡ Half → Reason HalfAway
    is_stale : Live → tick_of r.head.last tick ≡ Stale → Reason StaleTick
    is_lost : Live → tick_of r.head.last tick ≡ Lost → Reason TicksLost
    has_no_job : Live → tick_of r.head.last tick ≡ Next → r.head.ordered ≡ idle → e ≡ true → Reason NoJob
    is_past : Live → tick_of r.head.last tick ≡ Next → (r.head.ordered ≡ idle → ⊥)
        → past_high lim p.jobs r.units r.head.ordered e ≡ true → Reason (PastHigh r.head.ordered)

  -- the last slot, idle or booked
  pub data Booked : Run → Type 0 where
    was_idle : Booked r
    was_job : (r.head.ordered ≡ idle → ⊥) → Booked (book_job lim p.jobs r e)

  pub data Did : Ran → Type 0 where
    refused : {w : Why} → Reason w → Did (says (Err w) (refused_run w r))
    taken : Live → tick_of r.head.last tick ≡ Next → {b : Run} → Booked b → Did (order_of lim p (move_of lim p.counts.len b tick))

  pub did : Did (step_on lim p r tick e)
  unfolding step_on test_of live_test answer_of next_of end_test tick_test book_of pick
  did = by_test (sound_run lim p r) refl (is_set r.head.halted) refl (tick_of r.head.last tick) refl (eqb r.head.ordered idle) refl e refl (past_high lim p.jobs r.units r.head.ordered e) refl
    where
      by_test : (a : Bool) → sound_run lim p r ≡ a → (h : Bool) → is_set r.head.halted ≡ h → (t : Tick) → tick_of r.head.last tick ≡ t
          → (i : Bool) → eqb r.head.ordered idle ≡ i → (c : Bool) → e ≡ c → (z : Bool) → past_high lim p.jobs r.units r.head.ordered e ≡ z
          → Did (answer_of lim p r tick e (need a BadState ⨾ need (not h) Halted ⨾ tick_test t ⨾ need (not (i && c)) NoJob ⨾ need (i || not z) (PastHigh r.head.ordered)))
      by_test false v h k t m i n c l z w = refused (is_bad v)
      by_test true v true k t m i n c l z w = refused (is_halted v k)
      by_test true v false k Same m i n c l z w = refused (is_same (v, k) m)
      by_test true v false k Lost m i n c l z w = refused (is_lost (v, k) m)
      by_test true v false k Half m i n c l z w = refused (is_half (v, k) m)
      by_test true v false k Stale m i n c l z w = refused (is_stale (v, k) m)
      by_test true v false k Next m true n true l z w = refused (has_no_job (v, k) m (eqb-true _ _ n) l)
      by_test true v false k Next m true n false l z w = rw (n) (taken (v, k) m was_idle)
      by_test true v false k Next m false n c l true w = refused (is_past (v, k) m (eqb-false _ _ n) w)
      by_test true v false k Next m false n c l false w = rw (n) (taken (v, k) m (was_job (eqb-false _ _ n)))
