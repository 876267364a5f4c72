-- The worked lines P8 and P9 of document 01, with the needs behind them, computed.
-- Assumes nothing.
use mathlib.Core.List.{List, [], ◌++◌, ◌∷◌}
use mathlib.Core.Path.{◌≡◌, refl}
use Prim.Native.Nat.{ℕ}
use lib.ListN.{replicate}
use Rattle.std.specs.Prelude.{Ok, Err}
use Rattle.basics.specs.Below.{any_below, count_below, entries_before}
use Rattle.basics.specs.Bytes.{u16_at}
use Rattle.basics.specs.Choice.{pick}
use Rattle.basics.specs.Find.{find}
use Rattle.basics.specs.Limits.{first_edition}
use Rattle.basics.specs.Marks.{idle, no_switch}
use Rattle.basics.specs.Turns.{in_turn, turns}
use Rattle.basics.specs.Units.{one_more}
use Rattle.frame.specs.Execution.{next_mode, outran, ready, runs, slot_with, step, switch_to, waits_for}
use Rattle.frame.specs.Search.{fault_at, fault_of, first_fault, late_job, needs_after, owed, reaches_budget, scan, search_from, switch_at, switches, try_switch}
use Rattle.joblist.specs.Answer.{body_answer, counts_answer, fields_answer, front_answer, good_budgets, good_pair, good_times, largest, list_answer, rising, within}
use Rattle.joblist.specs.Cycle.{cyclic, walk}
use Rattle.joblist.specs.Fields.{edge_in}
use Rattle.verdict.specs.Answer.{check_of, odd_entry, tables_answer}
use Rattle.verdict.specs.Count.{entries_in}
use Rattle.verdict.specs.declared.Fault.TheVariants.{Before, Late}
use Rattle.verdict.specs.declared.Objection.TheVariants.{Bad}
use Rattle.witness.specs.Needs.{ended, need_of, needs_to, saying, witness_of}

-- list A with m edges
abbrev list_a : ℕ → List ℕ → List ℕ
list_a m edges = 2 ∷ 0 ∷ m ∷ 0 ∷ 5 ∷ 0 ∷ 0 ∷ 0 ∷ 0 ∷ 0 ∷ 5 ∷ 0 ∷ 1 ∷ 0 ∷ 3 ∷ 0 ∷ 1 ∷ 0 ∷ 0 ∷ 0 ∷ 3 ∷ 0 ∷ 2 ∷ 0 ∷ 2 ∷ 0 ∷ 0 ∷ 0 ∷ edges

abbrev table : ℕ → ℕ → ℕ → ℕ → ℕ → List ℕ
table a b c d e = a ∷ b ∷ c ∷ d ∷ e ∷ []

-- what two jobs need
abbrev two : ℕ → ℕ → List ℕ
two a b = (a ∷ b ∷ []) ++ replicate 62 0

-- P8: job 0 outruns CLO at slot 2 and needs its three units; job 1 had ended with its two. P9: no switch. P1: nothing goes wrong
pub worked : (witness_of first_edition (list_a 0 []) (table 1 1 0 idle idle) (table 0 0 0 idle idle) ≡ saying (Err (Bad (Late 5 0 2))) (two 3 2))
    × (witness_of first_edition (list_a 1 (0 ∷ 1 ∷ [])) (table 1 1 0 idle idle) (table idle idle idle idle idle) ≡ saying (Err (Bad (Before 0 1 0 no_switch))) (two 1 2))
    × (witness_of first_edition (list_a 0 []) (table 1 1 0 idle idle) (table 1 1 0 0 0) ≡ saying (Ok tt) (two 0 0))
unfolding witness_of needs_to need_of ended pick entries_in entries_before count_below check_of tables_answer odd_entry list_answer front_answer counts_answer within body_answer fields_answer good_times good_budgets largest rising good_pair cyclic walk any_below turns in_turn edge_in u16_at first_fault search_from switches switch_at try_switch reaches_budget scan fault_at fault_of owed late_job step slot_with outran runs ready waits_for next_mode find needs_after one_more switch_to
worked = (refl, refl, refl)
