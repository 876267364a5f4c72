-- The worked lines of document 01 for the check, on bytes, computed.
-- Assumes nothing.
use mathlib.Core.List.{List, [], ◌∷◌}
use mathlib.Core.Path.{◌≡◌, refl}
use Prim.Native.Nat.{ℕ}
use Rattle.basics.specs.Below.{any_below}
use Rattle.basics.specs.Bytes.{u16_at}
use Rattle.basics.specs.Find.{find}
use Rattle.basics.specs.Limits.{first_edition}
use Rattle.basics.specs.Marks.{idle, no_switch}
use Rattle.basics.specs.Turns.{in_turn, turns}
use Rattle.basics.specs.Units.{one_more}
use Rattle.frame.specs.Execution.{next_mode, outran, ready, runs, slot_with, step, switch_to, waits_for}
use Rattle.frame.specs.Search.{fault_at, fault_of, first_fault, late_job, needs_after, owed, reaches_budget, scan, search_from, switch_at, switches, try_switch}
use Rattle.joblist.specs.Answer.{body_answer, counts_answer, fields_answer, front_answer, good_budgets, good_pair, good_times, largest, list_answer, rising, within}
use Rattle.joblist.specs.Cycle.{cyclic, walk}
use Rattle.joblist.specs.Fields.{edge_in}
use Rattle.joblist.specs.declared.Why.TheVariants.{Short}
use Rattle.verdict.specs.Answer.{check_of, odd_entry, tables_answer}
use Rattle.verdict.specs.declared.Fault.TheVariants.{Before, Late}
use Rattle.verdict.specs.declared.Objection.TheVariants.{Bad, Entry, OfList, Size}
use Rattle.std.specs.Prelude.{Ok, Err}

-- list A
abbrev list_a : List ℕ
list_a = 2 ∷ 0 ∷ 0 ∷ 0 ∷ 5 ∷ 0 ∷ 0 ∷ 0 ∷ 0 ∷ 0 ∷ 5 ∷ 0 ∷ 1 ∷ 0 ∷ 3 ∷ 0 ∷ 1 ∷ 0 ∷ 0 ∷ 0 ∷ 3 ∷ 0 ∷ 2 ∷ 0 ∷ 2 ∷ 0 ∷ 0 ∷ 0 ∷ []

-- list A with the edge (0, 1)
abbrev list_edge : List ℕ
list_edge = 2 ∷ 0 ∷ 1 ∷ 0 ∷ 5 ∷ 0 ∷ 0 ∷ 0 ∷ 0 ∷ 0 ∷ 5 ∷ 0 ∷ 1 ∷ 0 ∷ 3 ∷ 0 ∷ 1 ∷ 0 ∷ 0 ∷ 0 ∷ 3 ∷ 0 ∷ 2 ∷ 0 ∷ 2 ∷ 0 ∷ 0 ∷ 0 ∷ 0 ∷ 1 ∷ []

-- list A, job 0 with budgets 3, 3
abbrev list33 : List ℕ
list33 = 2 ∷ 0 ∷ 0 ∷ 0 ∷ 5 ∷ 0 ∷ 0 ∷ 0 ∷ 0 ∷ 0 ∷ 5 ∷ 0 ∷ 3 ∷ 0 ∷ 3 ∷ 0 ∷ 1 ∷ 0 ∷ 0 ∷ 0 ∷ 3 ∷ 0 ∷ 2 ∷ 0 ∷ 2 ∷ 0 ∷ 0 ∷ 0 ∷ []

abbrev table : ℕ → ℕ → ℕ → ℕ → ℕ → List ℕ
table a b c d e = a ∷ b ∷ c ∷ d ∷ e ∷ []

abbrev all_idle : List ℕ
all_idle = table idle idle idle idle idle

pub worked : (check_of first_edition list_a (table 1 1 0 idle idle) (table 1 1 0 0 0) ≡ Ok tt)
    × (check_of first_edition list_a (table 1 1 0 idle idle) (table 0 0 0 idle idle) ≡ Err (Bad (Late 5 0 2)))
    × (check_of first_edition list_edge (table 1 1 0 idle idle) all_idle ≡ Err (Bad (Before 0 1 0 no_switch)))
    × (check_of first_edition list_a (table 1 1 0 0 idle) (table 1 1 0 0 0) ≡ Ok tt)
    × (check_of first_edition list33 (table 1 1 0 0 0) all_idle ≡ Ok tt)
unfolding check_of tables_answer odd_entry list_answer front_answer counts_answer within body_answer fields_answer good_times good_budgets largest rising good_pair cyclic walk any_below turns in_turn edge_in u16_at first_fault search_from switches switch_at try_switch reaches_budget scan fault_at fault_of owed late_job step slot_with outran runs ready waits_for next_mode find needs_after one_more switch_to
worked = (refl, refl, refl, refl, refl)

-- 43 before 45, and the odd entry of table LO before that of table HI
pub refused : (check_of first_edition list_a (table 9 1 0 idle idle) (1 ∷ []) ≡ Err Size)
    × (check_of first_edition list_a (table 1 1 0 9 idle) (table 9 9 0 0 0) ≡ Err (Entry 3))
    × (check_of first_edition list_a (table 1 1 0 idle idle) (table 1 2 0 0 0) ≡ Err (Entry 1))
    × (check_of first_edition [] [] [] ≡ Err (OfList Short))
unfolding check_of tables_answer odd_entry list_answer front_answer counts_answer within body_answer fields_answer good_times good_budgets largest cyclic walk any_below turns in_turn u16_at find
refused = (refl, refl, refl, refl)
