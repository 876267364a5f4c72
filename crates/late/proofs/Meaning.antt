-- What the late tables mean: the theorems. Read specs/Meaning.antt beside them.
-- Assumes nothing.
use Rattle.joblist.proofs.Accepted.{deadline_in_frame}
use Rattle.joblist.specs.Accepted.{Accepted}
use Rattle.joblist.specs.Fields.{jobs, slots}
use Rattle.basics.specs.Limits.{Limits}
use Rattle.basics.specs.Marks.{idle}
use lib.ListN.{length, length-replicate}
use borrow.Author.Tests.{ltb-true}
use native.Mathlib.Omega.{arith}
use mathlib.Core.Bool.{true}
use mathlib.Core.List.{List}
use mathlib.Core.Logic.{inl, inr}
use mathlib.Core.Path.{◌≡◌, ◌∙◌}
use Prim.Native.Nat.{ℕ, ◌-◌, ◌≤◌, ◌<◌}
use Rattle.late.specs.Table.{entry, all_idle, held}
use Rattle.std.specs.Prelude.{Ok}
use Rattle.late.specs.Late.{chosen, late_answer, late_table, late_of}
use Rattle.late.specs.Meaning.{filled, after, Chosen, Serves, LateTable}
use Rattle.late.proofs.Earliest.{edf_long}
use Rattle.late.proofs.EdfTable.{edf_entry, edf_choice}
use Rattle.late.proofs.InTime.{edf_exact}
use Rattle.late.proofs.Later.{moved_keeps}
use Rattle.late.proofs.Serves.{stage, own_below, own_free, own_later, moved_window, moved_ordered}

module _ (lim : Limits) (s : List ℕ) (acc : Accepted lim s) (few : jobs s ≤ 254) (v : ℕ) where
  size : length (filled s v) ≡ slots s
  size = edf_long s v (all_idle s) (slots s) ∙ length-replicate (slots s) idle

  chosen_at : (x : ℕ) → x < slots s → entry (filled s v) x ≡ chosen s v (filled s v) x
  chosen_at = edf_entry s v (all_idle s) (length-replicate (slots s) idle)

  -- the choice is ready, has the earliest deadline, and is the lowest such job
  pub chosen_best : (t : ℕ) → t < slots s → Chosen s v t
  chosen_best t h = elim (edf_choice s v few (filled s v) chosen_at t h) [
    | inl c ↦ record { best = λ l. absurd (omega (arith, c.0)); none = λ l. (c.0, c.1) }
    | inr c ↦ record { best = λ l. c; none = λ l. absurd (omega (arith, c.below)) }
  ]

  module _ (fine : late_of s v ≡ Ok tt) where
    fine_filled : late_answer s v (filled s v) ≡ Ok tt
    unfolding late_of
    fine_filled = fine

    -- a unit's own slot always serves
    pub serves : (k : ℕ) → k < slots s → held s (after s v k) (slots s - 1 - k) ≡ true → Serves s v k (slots s - 1 - k)
    serves k h e =
        let st = stage lim s acc few v (filled s v) size chosen_at fine_filled k (omega arith) in
        let l = ltb-true _ _ e in
        record {
          below = own_below lim s acc few v (filled s v) size chosen_at fine_filled k h (after s v k) st l;
          free = own_free lim s acc few v (filled s v) size chosen_at fine_filled k h (after s v k) st l;
          later = own_later lim s acc few v (filled s v) size chosen_at fine_filled k h (after s v k) st l;
        }

    -- moving late keeps each job's units, all that it takes, each in its window and before its successors
    pub late_table_lem : LateTable s v
    unfolding late_table
    late_table_lem =
        record {
          kept = λ j l. moved_keeps s few lim acc j l (filled s v) (slots s) size (omega arith);
          exact = λ j l.
              moved_keeps s few lim acc j l (filled s v) (slots s) size (omega arith)
              ∙ edf_exact s v few (filled s v) chosen_at fine_filled j l (deadline_in_frame lim s acc j l);
          arrived = λ x h e. (moved_window lim s acc few v (filled s v) size chosen_at fine_filled x h (ltb-true _ _ e)).0;
          in_time = λ x h e. (moved_window lim s acc few v (filled s v) size chosen_at fine_filled x h (ltb-true _ _ e)).1;
          ordered = moved_ordered lim s acc few v (filled s v) size chosen_at fine_filled;
        }
