-- P1 to P12: every row of the table holds, computed from the definitions that the contracts cite.
-- Assumes nothing.
use mathlib.Core.Path.{refl}
use Rattle.basics.specs.Below.{count_below, entries_before, any_below, all_below, all_of}
use Rattle.basics.specs.Bytes.{u16_at, u32_at}
use Rattle.basics.specs.Choice.{pick, earliest}
use Rattle.basics.specs.Find.{find, lowest, highest}
use Rattle.basics.specs.Put.{put}
use Rattle.basics.specs.Turns.{in_turn, turns}
use Rattle.basics.specs.Units.{one_more}
use Rattle.parts.specs.Marks.{is_set}
use Rattle.parts.specs.Scan.{sizes_ok, byte_ok, slot_ok, tables_ok, edges_ok, job_ok, jobs_ok, units_ok, ended_before, preds_done, named_in, bump, past_high, late_low, may_run, choice_in}
use Rattle.machine.specs.Tick.{difference, case_of, tick_of}
use Rattle.machine.specs.Run.{fresh_head}
use Rattle.machine.specs.Machine.{tick_test, plan_ok, run_ok, sound_on, end_test, live_test, book_job, book_of, move_of, fresh_run, test_of, order_of, next_of, answer_of, step_on}
use Rattle.dispatch.specs.State.{fresh_of}
use Rattle.dispatch.specs.Open.{entries, jobs_of, edges_of, tables_of, fields_of, open_of}
use Rattle.frame.specs.Execution.{switch_to, next_mode, waits_for, ready, runs, outran, slot_with, step, opening, Bad}
use Rattle.frame.specs.Search.{late_job, owed, fault_of, fault_at, scan, needs_after, reaches_budget, try_switch, switch_at, switches, search_from, first_fault}
use Rattle.hitable.specs.Runs.{runs as hitable·runs, row_of}
use Rattle.hitable.specs.TableHi.{is_high, turn, owing, hi_at, table_hi}
use Rattle.joblist.specs.Answer.{within, counts_answer, good_times, good_budgets, fields_answer, largest, rising, good_pair, body_answer, front_answer, list_answer}
use Rattle.joblist.specs.Cycle.{walk, cyclic}
use Rattle.joblist.specs.Fields.{edge_in}
use Rattle.late.specs.Late.{ready as late·ready, late_at, takes, unfinished, chosen, edf_at, late_answer, target, move, moved, late_table, first_unit, first_units, late_of, tlo, thi}
use Rattle.late.specs.Table.{waits}
use Rattle.lotable.specs.TableLo.{unplaced, fits, later, pick as lotable·pick, tables_at, clash_in, clash_of, table_lo}
use Rattle.merge.specs.Build.{pair_of, built_hi, merge_plan, build_of, out_after}
use Rattle.planfile.specs.Answer.{parts_answer, read_of, write_of, out_after as planfile·outAfter}
use Rattle.planfile.specs.Plan.{plan_of, part_of}
use Rattle.verdict.specs.Answer.{odd_entry, tables_answer, check_of}
use Rattle.verdict.specs.Count.{entries_in}
use Rattle.cases.specs.Table.{EachHolds, table}

pub all_hold : EachHolds table
unfolding count_below entries_before any_below all_below all_of u16_at u32_at pick earliest find lowest highest put in_turn turns one_more fresh_head tick_test plan_ok run_ok sound_on end_test live_test book_job book_of move_of fresh_run test_of order_of next_of answer_of step_on fresh_of is_set entries jobs_of edges_of tables_of fields_of open_of sizes_ok byte_ok slot_ok tables_ok edges_ok job_ok jobs_ok units_ok ended_before preds_done named_in bump past_high late_low may_run choice_in difference case_of tick_of switch_to next_mode waits_for ready runs outran slot_with step opening Bad late_job owed fault_of fault_at scan needs_after reaches_budget try_switch switch_at switches search_from first_fault hitable·runs row_of is_high turn owing hi_at table_hi within counts_answer good_times good_budgets fields_answer largest rising good_pair body_answer front_answer list_answer walk cyclic edge_in late·ready late_at takes unfinished chosen edf_at late_answer target move moved late_table first_unit first_units late_of tlo thi waits unplaced fits later lotable·pick tables_at clash_in clash_of table_lo pair_of built_hi merge_plan build_of out_after parts_answer read_of write_of planfile·outAfter plan_of part_of odd_entry tables_answer check_of entries_in
all_hold = ((refl, refl), (refl, ((refl, refl), ((refl, refl), ((refl, refl, refl), ((refl, refl, refl), ((refl, refl), ((refl, refl, refl), ((refl, refl), ((refl, refl), ((refl, refl), (refl, (refl, (refl, (refl, (refl, ((refl, refl), tt)))))))))))))))))
