-- Plans worked on paper, computed: P1, and a refusal of each row.
-- Assumes nothing.
use mathlib.Core.List.{[], ◌∷◌, ◌++◌}
use mathlib.Core.Path.{◌≡◌, refl}
use lib.ListN.{length, take, drop, set}
use Rattle.std.specs.Prelude.{Ok, Err}
use Rattle.basics.specs.Below.{any_below}
use Rattle.basics.specs.Bytes.{u16_at, u32_at}
use Rattle.basics.specs.Find.{find}
use Rattle.basics.specs.Limits.{first_edition}
use Rattle.basics.specs.Turns.{in_turn, turns}
use Rattle.basics.specs.Units.{one_more}
use Rattle.frame.specs.Execution.{next_mode, outran, ready, runs, slot_with, step, switch_to, waits_for}
use Rattle.frame.specs.Search.{fault_at, fault_of, first_fault, late_job, needs_after, owed, reaches_budget, scan, search_from, switch_at, switches, try_switch}
use Rattle.joblist.specs.Answer.{body_answer, counts_answer, fields_answer, front_answer, good_budgets, good_pair, good_times, largest, list_answer, rising, within}
use Rattle.joblist.specs.Cycle.{cyclic, walk}
use Rattle.joblist.specs.Fields.{edge_in}
use Rattle.joblist.specs.declared.Why.TheVariants.{Jobs, Length}
use Rattle.verdict.specs.Answer.{check_of, odd_entry, tables_answer}
use Rattle.verdict.specs.declared.Fault.TheVariants.{Late}
use Rattle.verdict.specs.declared.Objection.TheVariants.{Bad, Entry, OfList}
use Rattle.planfile.specs.Plan.{plan_of, part_of, list_of, low_of, high_of}
use Rattle.planfile.specs.Answer.{parts_answer, read_of, write_of}
use Rattle.planfile.specs.Cases.{list_a, low_a, high_a, plan_a}
use Rattle.planfile.specs.declared.ReadWhy.TheVariants.{Short, Mark, Distance, Checked}
use Rattle.planfile.specs.declared.WriteWhy.TheVariants.{Room}

-- P1: the plan of list A and its tables, its 46 bytes, and what reading and writing say of it
pub p1_plan : (plan_of list_a low_a high_a ≡ plan_a)
    × (length plan_a ≡ 46)
    × (read_of first_edition plan_a ≡ Ok (record { jobs = 2; edges = 0; slots = 5 }))
    × (write_of first_edition list_a low_a high_a 46 ≡ Ok 46)
    × (write_of first_edition list_a low_a high_a 45 ≡ Err Room)
unfolding plan_of part_of parts_answer read_of write_of u32_at check_of tables_answer odd_entry list_answer front_answer counts_answer within body_answer fields_answer good_times good_budgets largest rising good_pair cyclic walk any_below turns in_turn edge_in u16_at first_fault search_from switches switch_at try_switch reaches_budget scan fault_at fault_of owed late_job step slot_with outran runs ready waits_for next_mode find needs_after one_more switch_to
p1_plan = (refl, refl, refl, refl, refl)

-- 40, 41, 42, 1, 43 for a byte more before the trailer, 45 in table LO before table HI, and P8 as a plan: 10
pub refused : (read_of first_edition (take 15 plan_a) ≡ Err Short)
    × (read_of first_edition (set plan_a 45 0x32) ≡ Err Mark)
    × (read_of first_edition (set plan_a 38 0x25) ≡ Err Distance)
    × (read_of first_edition (set plan_a 0 0) ≡ Err (Checked (OfList Jobs)))
    × (read_of first_edition (take 38 plan_a ++ (0 ∷ 0x27 ∷ []) ++ drop 39 plan_a) ≡ Err (Checked (OfList Length)))
    × (read_of first_edition (set (set plan_a 33 2) 32 3) ≡ Err (Checked (Entry 4)))
    × (read_of first_edition (plan_of list_a low_a (0 ∷ 0 ∷ 0 ∷ 0xFF ∷ 0xFF ∷ [])) ≡ Err (Checked (Bad (Late 5 0 2))))
unfolding plan_of part_of parts_answer read_of u32_at check_of tables_answer odd_entry list_answer front_answer counts_answer within body_answer fields_answer good_times good_budgets largest rising good_pair cyclic walk any_below turns in_turn edge_in u16_at first_fault search_from switches switch_at try_switch reaches_budget scan fault_at fault_of owed late_job step slot_with outran runs ready waits_for next_mode find needs_after one_more switch_to
refused = (refl, refl, refl, refl, refl, refl, refl)

-- the parts: of P1, of its first 30 bytes, and of too few
pub parts : (list_of plan_a ≡ list_a) × (low_of plan_a ≡ low_a) × (high_of plan_a ≡ high_a)
    × (list_of (take 30 plan_a) ≡ list_a) × (low_of (take 30 plan_a) ≡ 1 ∷ 1 ∷ []) × (high_of (take 30 plan_a) ≡ [])
    × (list_of (take 15 plan_a) ≡ [])
unfolding part_of u16_at
parts = (refl, refl, refl, refl, refl, refl, refl)
