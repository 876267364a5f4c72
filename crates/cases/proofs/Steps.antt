-- The dispatcher's worked lines hold, computed from the definitions that the contracts cite.
-- Assumes nothing.
use Prim.Native.Nat.{ℕ}
use mathlib.Core.Path.{◌≡◌, refl}
use Rattle.basics.specs.Below.{all_below, all_of}
use Rattle.basics.specs.Choice.{pick}
use Rattle.parts.specs.Marks.{is_set}
use Rattle.parts.specs.Scan.{sizes_ok, byte_ok, slot_ok, tables_ok, edges_ok, job_ok, jobs_ok, units_ok, ended_before, preds_done, named_in, bump, past_high, late_low, may_run, choice_in}
use Rattle.machine.specs.Tick.{difference, case_of, tick_of}
use Rattle.machine.specs.Run.{fresh_head}
use Rattle.machine.specs.Machine.{tick_test, plan_ok, run_ok, sound_on, end_test, live_test, book_job, book_of, move_of, fresh_run, test_of, order_of, next_of, answer_of, step_on}
use Rattle.dispatch.specs.State.{fresh_of}
use Rattle.cases.specs.Steps.{EachRuns, runs, Says, bad, good, counted}

pub all_run : EachRuns runs
unfolding all_below all_of pick is_set sizes_ok byte_ok slot_ok tables_ok edges_ok job_ok jobs_ok units_ok ended_before preds_done named_in bump past_high late_low may_run choice_in difference case_of tick_of fresh_head tick_test plan_ok run_ok sound_on end_test live_test book_job book_of move_of fresh_run test_of order_of next_of answer_of step_on fresh_of
all_run = (refl, (refl, (refl, (refl, (refl, (refl, (refl, tt)))))))

-- each part of row 37 refuses, and nothing else does
pub all_bad : Says (λ n. n ≡ 37) bad
unfolding all_below all_of pick is_set sizes_ok byte_ok slot_ok tables_ok edges_ok job_ok jobs_ok units_ok ended_before preds_done named_in bump past_high late_low may_run choice_in difference case_of tick_of fresh_head tick_test plan_ok run_ok sound_on end_test live_test book_job book_of move_of fresh_run test_of order_of next_of answer_of step_on fresh_of
all_bad = (refl, (refl, (refl, (refl, (refl, (refl, (refl, (refl, (refl, (refl, (refl, (refl, (refl, (refl, (refl, (refl, (refl, (refl, tt))))))))))))))))))

pub all_good : Says (λ n. n ≡ 0) good
unfolding all_below all_of pick is_set sizes_ok byte_ok slot_ok tables_ok edges_ok job_ok jobs_ok units_ok ended_before preds_done named_in bump past_high late_low may_run choice_in difference case_of tick_of fresh_head tick_test plan_ok run_ok sound_on end_test live_test book_job book_of move_of fresh_run test_of order_of next_of answer_of step_on fresh_of
all_good = (refl, (refl, (refl, (refl, (refl, (refl, (refl, (refl, (refl, tt)))))))))

-- the most that a count holds is 1,024
pub most_counted : (◌≡◌ {A = ℕ} (counted 1023) 1024) × (◌≡◌ {A = ℕ} (counted 1024) 1024)
unfolding all_below all_of pick is_set sizes_ok byte_ok slot_ok tables_ok edges_ok job_ok jobs_ok units_ok ended_before preds_done named_in bump past_high late_low may_run choice_in difference case_of tick_of fresh_head tick_test plan_ok run_ok sound_on end_test live_test book_job book_of move_of fresh_run test_of order_of next_of answer_of step_on fresh_of
most_counted = (refl, refl)
