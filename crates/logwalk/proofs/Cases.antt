-- A store with P1's plan, computed: the newest, and back from its end.
-- Assumes nothing.
use mathlib.Core.Path.{◌≡◌, refl}
use Rattle.std.specs.Prelude.{Ok, Err}
use Rattle.basics.specs.Below.{any_below}
use Rattle.basics.specs.Bytes.{u16_at, u32_at}
use Rattle.basics.specs.Find.{find}
use Rattle.basics.specs.Limits.{first_edition}
use Rattle.basics.specs.Turns.{in_turn, turns}
use Rattle.basics.specs.Units.{one_more}
use Rattle.frame.specs.Execution.{next_mode, outran, ready, runs, slot_with, step, switch_to, waits_for}
use Rattle.frame.specs.Search.{fault_at, fault_of, first_fault, late_job, needs_after, owed, reaches_budget, scan, search_from, switch_at, switches, try_switch}
use Rattle.joblist.specs.Answer.{body_answer, counts_answer, fields_answer, front_answer, good_budgets, good_pair, good_times, largest, list_answer, rising, within}
use Rattle.joblist.specs.Cycle.{cyclic, walk as reach}
use Rattle.joblist.specs.Fields.{edge_in}
use Rattle.verdict.specs.Answer.{check_of, odd_entry, tables_answer}
use Rattle.planfile.specs.Plan.{part_of}
use Rattle.planfile.specs.Answer.{parts_answer, read_of}
use Rattle.logwalk.specs.Walk.{accepts, size_of, plan_at, plans_from, walk, last_in}
use Rattle.logwalk.specs.Answer.{newest_of, start_before, plan_before, previous_of}
use Rattle.logwalk.specs.Cases.{no_plan, one_plan, two_plans}
use Rattle.logwalk.specs.declared.FindWhy.TheVariants.{Empty}

-- 51, the first plan and the second; back from its end, from its start, and from the front
pub found : (newest_of first_edition no_plan ≡ Err Empty)
    × (newest_of first_edition one_plan ≡ Ok (record { start = 0; size = 46 }))
    × (newest_of first_edition two_plans ≡ Ok (record { start = 46; size = 46 }))
    × (previous_of first_edition two_plans 92 ≡ Ok (record { start = 46; size = 46 }))
    × (previous_of first_edition two_plans 46 ≡ Ok (record { start = 0; size = 46 }))
    × (previous_of first_edition two_plans 0 ≡ Err Empty)
unfolding newest_of previous_of plan_before start_before last_in walk plans_from plan_at accepts size_of part_of parts_answer read_of u32_at check_of tables_answer odd_entry list_answer front_answer counts_answer within body_answer fields_answer good_times good_budgets largest rising good_pair cyclic reach any_below turns in_turn edge_in u16_at first_fault search_from switches switch_at try_switch reaches_budget scan fault_at fault_of owed late_job step slot_with outran runs ready waits_for next_mode find needs_after one_more switch_to
found = (refl, refl, refl, refl, refl, refl)
