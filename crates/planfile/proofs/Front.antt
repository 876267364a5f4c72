-- The list at the front of a plan: the plan's counts are the list's, and the list's rows are answered as for the list alone.
-- Assumes nothing.
use Prim.Native.Nat.{ℕ, ◌+◌, ◌*◌, ◌≤◌}
use mathlib.Core.Path.{◌≡◌, sym, ◌∙◌}
use mathlib.Core.List.{List, ◌++◌}
use mathlib.Core.Option.{Option, some, none}
use native.Mathlib.Omega.{arith}
use borrow.Author.Tests.{eq-eqb}
use lib.ListN.{length, drop, length-drop, take-append-drop}
use lib.Seq.{length-take-le}
use Rattle.std.specs.Prelude.{Ok}
use Rattle.basics.specs.Chain.{◌⨾◌}
use Rattle.basics.specs.Limits.{Limits}
use Rattle.joblist.specs.Fields.{head_bytes, jobs, edges, slots, high}
use Rattle.joblist.specs.Answer.{front_answer, list_answer}
use Rattle.joblist.proofs.Accepted.{front_counts}
use Rattle.joblist.proofs.Front.{u16_front, list_front}
use Rattle.frame.specs.Search.{Finding, nothing, found, first_fault}
use Rattle.verdict.specs.Answer.{odd_entry, entry_answer, search_answer, tables_answer, check_of}
use Rattle.verdict.specs.FrameOf.{frame_of}
use Rattle.planfile.specs.Round.{OfTables, fine, entry, fault}
use Rattle.planfile.specs.Plan.{trailer_bytes, plan_bytes, least_bytes, low_at, list_of, low_of, high_of}
use Rattle.planfile.proofs.Parts.{part_some}

-- the list t, and behind it u
module _ (t u : List ℕ) (head : head_bytes ≤ length t) where
  pub front_jobs : jobs (t ++ u) ≡ jobs t
  front_jobs = u16_front t u 0 (omega arith)

  pub front_edges : edges (t ++ u) ≡ edges t
  front_edges = u16_front t u 2 (omega arith)

  pub front_slots : slots (t ++ u) ≡ slots t
  front_slots = u16_front t u 4 (omega arith)

  pub front_list : (lim : Limits) → length u ≡ 2 * slots t + trailer_bytes → front_answer lim (high (t ++ u)) (t ++ u) (plan_bytes (jobs (t ++ u)) (edges (t ++ u)) (slots (t ++ u))) ≡ list_answer lim t
  front_list lim h =
      let e : plan_bytes (jobs (t ++ u)) (edges (t ++ u)) (slots (t ++ u)) ≡ low_at t + length u = omega (arith, front_jobs, front_edges, front_slots) in
      rw e (list_front lim t u head)

left : (o p : Option ℕ) (f : Finding) → OfTables (entry_answer o ⨾ entry_answer p ⨾ search_answer f)
left (some x) p f = entry x
left none (some x) f = entry x
left none none (found f) = fault _
left none none nothing = fine

-- a plan whose list and length are good: its parts, before the check looks at the tables
module _ (lim : Limits) (s : List ℕ) (long : least_bytes ≤ length s) (good : front_answer lim (high s) s (plan_bytes (jobs s) (edges s) (slots s)) ≡ Ok tt) where
  pub front_length : length s ≡ plan_bytes (jobs s) (edges s) (slots s)
  front_length = front_counts lim s _ _ good

  pub list_size : length (list_of s) ≡ low_at s
  list_size = rw (part_some s 0 (low_at s) long) (length-take-le (low_at s) s (omega (arith, front_length)))

  pub low_size : length (low_of s) ≡ slots s
  low_size =
      rw (part_some s (low_at s) (slots s) long)
      (length-take-le (slots s) (drop (low_at s) s) (rw (length-drop (low_at s) s) (omega (arith, front_length))))

  pub high_size : length (high_of s) ≡ slots s
  high_size =
      rw (part_some s (low_at s + slots s) (slots s) long)
      (length-take-le (slots s) (drop (low_at s + slots s) s) (rw (length-drop (low_at s + slots s) s) (omega (arith, front_length))))

  split : list_of s ++ drop (low_at s) s ≡ s
  split = rw (part_some s 0 (low_at s) long) (take-append-drop (low_at s) s)

  pub list_slots : slots (list_of s) ≡ slots s
  list_slots = sym (rw split at (front_slots (list_of s) (drop (low_at s) s) (omega (arith, list_size))))

  pub good_list : list_answer lim (list_of s) ≡ Ok tt
  good_list =
      let h : length (drop (low_at s) s) ≡ 2 * slots (list_of s) + trailer_bytes = rw (length-drop (low_at s) s, list_slots) (omega (arith, front_length)) in
      sym (rw split at (front_list (list_of s) (drop (low_at s) s) (omega (arith, list_size)) lim h)) ∙ good

  -- so the check of the parts answers no row of the list, and no 43
  pub tables_left : OfTables (check_of lim (list_of s) (low_of s) (high_of s))
  unfolding check_of tables_answer
  tables_left =
      rw (good_list, eq-eqb (length (low_of s)) (slots (list_of s)) (low_size ∙ sym list_slots), eq-eqb (length (high_of s)) (slots (list_of s)) (high_size ∙ sym list_slots))
      (left (odd_entry (low_of s) (jobs (list_of s))) (odd_entry (high_of s) (jobs (list_of s))) (first_fault (frame_of (list_of s) (low_of s) (high_of s))))
