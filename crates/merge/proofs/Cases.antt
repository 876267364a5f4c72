-- The examples of document 000 and the smallest refused lists, on bytes, computed. P1 to P7 stand in the table of all worked lines.
-- Assumes nothing.
use mathlib.Core.List.{List, [], ◌∷◌}
use mathlib.Core.Path.{◌≡◌, refl}
use Prim.Native.Nat.{ℕ}
use lib.ListN.{replicate}
use Rattle.basics.specs.Below.{any_below, count_below, entries_before}
use Rattle.basics.specs.Bytes.{u16_at}
use Rattle.basics.specs.Choice.{earliest}
use Rattle.basics.specs.Find.{find, lowest, highest}
use Rattle.basics.specs.Limits.{first_edition}
use Rattle.basics.specs.Put.{put}
use Rattle.basics.specs.Turns.{in_turn, turns}
use Rattle.basics.specs.Units.{one_more}
use Rattle.frame.specs.Execution.{next_mode, outran, ready, runs, slot_with, step, switch_to, waits_for}
use Rattle.frame.specs.Search.{fault_at, fault_of, first_fault, late_job, needs_after, owed, reaches_budget, scan, search_from, switch_at, switches, try_switch}
use Rattle.joblist.specs.Answer.{body_answer, counts_answer, fields_answer, front_answer, good_budgets, good_pair, good_times, largest, list_answer, rising, within}
use Rattle.joblist.specs.Cycle.{cyclic, walk}
use Rattle.joblist.specs.Fields.{edge_in}
use Rattle.verdict.specs.Answer.{check_of, odd_entry, tables_answer}
use Rattle.verdict.specs.declared.Fault.TheVariants.{Late}
use Rattle.verdict.specs.declared.Objection.TheVariants.{Bad}
use Rattle.std.specs.Prelude.{Ok, Err}
use Rattle.planfile.specs.Plan.{plan_of}
use Rattle.late.specs.Table.{waits}
use Rattle.late.specs.Late.{ready as is_ready, late_at, takes, unfinished, chosen, edf_at, late_answer, target, move, moved, late_table, first_unit, first_units, late_of, tlo, thi}
use Rattle.lotable.specs.TableLo.{unplaced, fits, later, pick, tables_at, clash_in, clash_of, table_lo}
use Rattle.hitable.specs.TableHi.{is_high, turn, owing, hi_at, table_hi}
use Rattle.merge.specs.declared.BuildWhy.TheVariants.{Room, LowLate, HighLate, Both, Early, Rejected}
use Rattle.merge.specs.Build.{pair_of, built_lo, built_hi, merge_plan, build_of, out_after}
use Rattle.merge.specs.Cases.{example2, example3, figures, small20, small21, small22, small23, small24, both_late, stands, chained, cut, low, high, i}

-- the list builds a plan of k bytes with these tables
abbrev Builds : List ℕ → ℕ → List ℕ → List ℕ → Type 0
Builds s k lo hi = (build_of first_edition s k ≡ Ok k) × (built_lo s ≡ lo) × (built_hi s ≡ hi)

-- document 000: Example 2; Example 3 with its temporary tables
abbrev Examples : Type 0
Examples =
    Builds example2 104 (5 ∷ 5 ∷ 1 ∷ 0 ∷ 2 ∷ 2 ∷ 3 ∷ 3 ∷ 4 ∷ 4 ∷ i ∷ i ∷ i ∷ i ∷ []) (5 ∷ 5 ∷ 5 ∷ 0 ∷ 0 ∷ 0 ∷ 0 ∷ 0 ∷ 4 ∷ 4 ∷ 4 ∷ 0 ∷ 0 ∷ 0 ∷ [])
    × (tlo example3 ≡ i ∷ 3 ∷ 4 ∷ 4 ∷ i ∷ i ∷ i ∷ i ∷ [])
    × (late_table example3 1 (replicate 8 i) ≡ i ∷ i ∷ 2 ∷ 2 ∷ 1 ∷ 1 ∷ 0 ∷ 0 ∷ [])
    × (thi example3 ≡ i ∷ i ∷ 2 ∷ i ∷ 1 ∷ i ∷ 0 ∷ i ∷ [])
    × Builds example3 82 (3 ∷ 4 ∷ 2 ∷ 4 ∷ 1 ∷ 0 ∷ i ∷ i ∷ []) (3 ∷ 4 ∷ 2 ∷ 2 ∷ 1 ∷ 1 ∷ 0 ∷ 0 ∷ [])

-- its figures 5 and 6: moving late, and the first CLO units
abbrev Figures : Type 0
Figures =
    (late_table figures 1 (replicate 16 i) ≡ i ∷ i ∷ i ∷ i ∷ 0 ∷ 1 ∷ 1 ∷ 1 ∷ 2 ∷ 2 ∷ 1 ∷ 0 ∷ 0 ∷ 0 ∷ 0 ∷ 0 ∷ [])
    × (thi figures ≡ i ∷ i ∷ i ∷ i ∷ 0 ∷ 1 ∷ 1 ∷ i ∷ 2 ∷ 2 ∷ i ∷ 0 ∷ i ∷ i ∷ i ∷ i ∷ [])

-- 20 to 24, each with its place; 46 before 20, and 20 before 21
abbrev Refusals : Type 0
Refusals =
    (build_of first_edition small20 28 ≡ Err (LowLate 1 0))
    × (build_of first_edition small20 27 ≡ Err Room)
    × (build_of first_edition small21 28 ≡ Err (HighLate 1 0))
    × (build_of first_edition both_late 38 ≡ Err (LowLate 1 0))
    × (build_of first_edition small22 38 ≡ Err (Both 0))
    × (build_of first_edition small23 42 ≡ Err (Early 0))
    × (build_of first_edition small24 46 ≡ Err (Rejected (Err (Bad (Late 3 0 0)))))
    × (out_after first_edition small24 (replicate 46 0xAA) ≡ replicate 46 0xAA)
    × (built_lo small24 ≡ 1 ∷ 0 ∷ i ∷ i ∷ i ∷ [])
    × (built_hi small24 ≡ 1 ∷ 1 ∷ 1 ∷ 0 ∷ i ∷ [])

-- a unit stays where THI, as first made, held it
abbrev FirstMade : Type 0
FirstMade =
    Builds stands 42 (0 ∷ 1 ∷ i ∷ []) (0 ∷ 1 ∷ 0 ∷ [])

-- no unit moves to or past a unit of its successor of that level; the first CLO units of each job stay
abbrev Successors : Type 0
Successors =
    (tlo (chained low) ≡ i ∷ 0 ∷ 1 ∷ i ∷ [])
    × (thi (chained high) ≡ i ∷ 0 ∷ 1 ∷ i ∷ [])
    × (late_table cut 1 (replicate 5 i) ≡ i ∷ 0 ∷ 0 ∷ 1 ∷ 1 ∷ [])
    × (thi cut ≡ i ∷ 0 ∷ i ∷ 1 ∷ i ∷ [])

pub worked : Examples × Figures × Refusals × FirstMade × Successors
unfolding build_of out_after merge_plan pair_of built_hi plan_of put waits is_ready late_at takes unfinished chosen edf_at late_answer target move moved late_table first_unit first_units late_of tlo thi unplaced fits later pick tables_at clash_in clash_of table_lo is_high turn owing hi_at table_hi count_below entries_before lowest highest earliest check_of tables_answer odd_entry list_answer front_answer counts_answer within body_answer fields_answer good_times good_budgets largest rising good_pair cyclic walk any_below turns in_turn edge_in u16_at first_fault search_from switches switch_at try_switch reaches_budget scan fault_at fault_of owed late_job step slot_with outran runs ready waits_for next_mode find needs_after one_more switch_to
worked = (
  ((refl, refl, refl), refl, refl, refl, (refl, refl, refl)),
  (refl, refl),
  (refl, refl, refl, refl, refl, refl, refl, refl, refl, refl),
  (refl, refl, refl),
  (refl, refl, refl, refl),
)
