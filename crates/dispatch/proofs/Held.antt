-- A step hands back what memory can hold; so a run by any step that meets the contract of `step` is the run of the machine.
-- Assumes nothing.
use Prim.Native.Nat.{ℕ, ◌+◌, ◌^◌, ◌<◌}
use mathlib.Core.Path.{◌≡◌, refl, ap, ◌∙◌}
use mathlib.Core.Bool.{Bool, true, false}
use mathlib.Core.List.{List, [], ◌∷◌}
use native.Mathlib.Omega.{arith}
use lib.ListN.{set, replicate, length-set, length-replicate}
use lib.Dec.{ltb}
use borrow.Author.Tests.{ltb-true}
use Rattle.basics.specs.Choice.{pick}
use Rattle.basics.specs.Limits.{first_edition}
use Rattle.basics.proofs.Choice.{pick_both}
use Rattle.machine.specs.Run.{Run, with_head, with_slot}
use Rattle.parts.specs.declared.plan.Plan.{Plan}
use Rattle.dispatch.specs.declared.state.State.{State}
use Rattle.dispatch.specs.declared.state.Stepped.{Stepped}
use Rattle.machine.specs.Numbers.{Answer}
use Rattle.parts.specs.Scan.{bump, named_in, choice_in}
use Rattle.machine.specs.Machine.{Ran, takes, halt_of, book_job, open_frame_of, move_of, order_of, step_on}
use Rattle.dispatch.specs.State.{run_of, step_of}
use Rattle.dispatch.specs.Runs.{Given, Each, answers_by, state_by, answers_of, state_of, Words, HeldPlan, HeldHead, HeldRun, Held}
use Rattle.dispatch.proofs.Did.{refused_has, Did, refused, taken, Booked, was_idle, was_job, did}
use Rattle.basics.proofs.At.{set_each, zeros_at}

words_set : (k n : ℕ) (l : List ℕ) (j v : ℕ) → v < 2 ^ k → Words k n l → Words k n (set l j v)
words_set k n l j v h w =
    record { many = length-set l j v ∙ w.many; fits = λ i. set_each (λ x. x < 2 ^ k) l j v i h (w.fits i) }

words_zero : (k n : ℕ) → 0 < 2 ^ k → Words k n (replicate n 0)
words_zero k n h = record { many = length-replicate n 0; fits = λ i. rw (zeros_at n i) h }

bump_fits : (u : ℕ) → u < 2 ^ 16 → bump first_edition u < 2 ^ 16
unfolding bump pick
bump_fits u h = by_test (ltb u first_edition.budget) refl
  where
    by_test : (b : Bool) → ltb u first_edition.budget ≡ b → pick b (u + 1) u < 2 ^ 16
    by_test true q = let l : u < first_edition.budget = ltb-true _ _ q in omega arith
    by_test false q = h

module _ (r : Run) (h : HeldRun r) where
  book_held : (jobs : List ℕ) (e : Bool) → HeldRun (book_job first_edition jobs r e)
  unfolding book_job
  book_held jobs e =
      record {
        head =
            record {
              slot = h.head.slot;
              last = h.head.last;
              ordered = h.head.ordered;
              high = pick_both (λ x. x < 2 ^ 8) _ _ _ (omega arith) h.head.high;
              halted = h.head.halted;
              spare = h.head.spare;
            };
        units = words_set _ _ _ r.head.ordered _ (bump_fits _ (h.units.fits r.head.ordered)) h.units;
        done = pick_both (Words 8 first_edition.jobs) _ _ _ (words_set _ _ _ r.head.ordered 1 (omega arith) h.done) h.done;
        cut = pick_both (Words 8 first_edition.jobs) _ _ _ (words_set _ _ _ r.head.ordered 1 (omega arith) h.cut) h.cut;
      }

  move_held : (len t : ℕ) → len < 2 ^ 16 → t < 2 ^ 16 → HeldRun (move_of first_edition len r t)
  unfolding move_of pick
  move_held len t m l = by_test (ltb (r.head.slot + 1) len) refl
    where
      moved : (slot high : ℕ) → slot < 2 ^ 16 → high < 2 ^ 8 → HeldHead (record { slot = slot; last = t; ordered = r.head.ordered; high = high; halted = r.head.halted; spare = r.head.spare })
      moved slot high a b =
          record { slot = a; last = l; ordered = h.head.ordered; high = b; halted = h.head.halted; spare = h.head.spare }

      by_test : (b : Bool) → ltb (r.head.slot + 1) len ≡ b
          → HeldRun (takes (pick b (with_head r (with_slot r.head (r.head.slot + 1))) (open_frame_of first_edition r)) t)
      by_test true q =
          let w : r.head.slot + 1 < len = ltb-true _ _ q in
          record { head = moved (r.head.slot + 1) r.head.high (omega arith) h.head.high; units = h.units; done = h.done; cut = h.cut }
      by_test false q =
          record {
            head = moved 0 0 (omega arith) (omega arith);
            units = words_zero 16 first_edition.jobs (omega arith);
            done = words_zero 8 first_edition.jobs (omega arith);
            cut = words_zero 8 first_edition.jobs (omega arith);
          }

  order_held : (p : Plan) → HeldPlan p → HeldRun (order_of first_edition p r).run
  unfolding order_of choice_in named_in
  order_held p g =
      let P : ℕ → Type 0 = λ x. x < 2 ^ 8 in
      record {
        head =
            record {
              slot = h.head.slot;
              last = h.head.last;
              ordered = pick_both P _ _ _ (omega arith) (pick_both P _ _ _ (pick_both P _ _ _ (g.tables.fits _) (g.tables.fits _)) (omega arith));
              high = h.head.high;
              halted = h.head.halted;
              spare = h.head.spare;
            };
        units = h.units;
        done = h.done;
        cut = h.cut;
      }

  halt_held : HeldRun (halt_of r)
  halt_held =
      record {
        head =
            record {
              slot = h.head.slot;
              last = h.head.last;
              ordered = h.head.ordered;
              high = h.head.high;
              halted = omega arith;
              spare = h.head.spare;
            };
        units = h.units;
        done = h.done;
        cut = h.cut;
      }

-- what memory can hold is stepped to what it can hold
pub held_stays : (s : State) (tick : ℕ) (e : Bool) → Held s → tick < 2 ^ 16 → Held (step_of first_edition s tick e).state
held_stays s tick e h l = record { plan = h.plan; run = go (step_on first_edition s.plan (run_of s) tick e) (did first_edition s.plan (run_of s) tick e) }
  where
    booked : (b : Run) → Booked first_edition s.plan (run_of s) tick e b → HeldRun b
    booked b was_idle = h.run
    booked b (was_job ne) = book_held (run_of s) h.run s.plan.jobs e

    go : (x : Ran) → Did first_edition s.plan (run_of s) tick e x → HeldRun x.run
    go x (refused {w = w} y) = refused_has HeldRun w (run_of s) h.run (halt_held (run_of s) h.run)
    go x (taken v q c) = order_held _ (move_held _ (booked _ c) s.plan.counts.len tick h.plan.len l) s.plan h.plan

-- a run by any step that is the machine's wherever memory can hold the state and 16 bits the tick is the machine's run
pub run_is_machine : (f : State → ℕ → Bool → Stepped)
    → ((s : State) (tick : ℕ) (e : Bool) → Held s → tick < 2 ^ 16 → f s tick e ≡ step_of first_edition s tick e)
    → (s : State) → Held s → (r : List Given) → Each (λ g. g.tick < 2 ^ 16) r
    → (answers_by f s r ≡ answers_of first_edition s r) × (state_by f s r ≡ state_of first_edition s r)
unfolding answers_by state_by
run_is_machine f m s h [] n = (refl, refl)
run_is_machine f m s h (g ∷ r) n =
    let q = m s g.tick g.ended h n.0 in
    let i = run_is_machine f m (step_of first_edition s g.tick g.ended).state (held_stays s g.tick g.ended h n.0) r n.1 in (
      ap (λ (x : Stepped). x.answer ∷ answers_by f x.state r) q
          ∙ ap (λ (l : List Answer). (step_of first_edition s g.tick g.ended).answer ∷ l) i.0,
      ap (λ (x : Stepped). state_by f x.state r) q ∙ i.1,
    )
