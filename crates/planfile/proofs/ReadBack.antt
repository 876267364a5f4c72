-- What is written is read again: the plan of an accepted list and its tables.
-- Assumes nothing.
use Prim.Native.Nat.{ℕ, ◌+◌, ◌*◌, ◌-◌, ◌≤◌, ◌<◌, ◌^◌}
use mathlib.Core.Path.{◌≡◌, sym, ap, ◌∙◌}
use mathlib.Core.List.{List, ◌++◌, append_assoc}
use native.Mathlib.Omega.{arith}
use lib.ListN.{length, length-append}
use lib.Seq.{take_at, drop_at, drop-append-add}
use Rattle.std.specs.Prelude.{Ok}
use Rattle.basics.specs.Bytes.{u32_at}
use Rattle.basics.specs.Limits.{Limits}
use Rattle.joblist.specs.Fields.{jobs, edges, slots, high}
use Rattle.joblist.specs.Answer.{front_answer}
use Rattle.joblist.proofs.Accepted.{list_length}
use Rattle.verdict.specs.Answer.{check_of}
use Rattle.verdict.specs.Demand.{Input}
use Rattle.planfile.specs.Plan.{mark, trailer, trailer_bytes, plan_of, plan_bytes, least_bytes, most_bytes, low_at, list_of, low_of, high_of}
use Rattle.planfile.specs.Answer.{shape_of}
use Rattle.planfile.specs.Round.{ReadsBack}
use Rattle.planfile.proofs.Parts.{part_some}
use Rattle.planfile.proofs.Rows.{parts_plan, read_rest}
use Rattle.planfile.proofs.Written.{plan_length}
use Rattle.planfile.proofs.Accepted.{pair_yes, pair_fits}
use Rattle.planfile.proofs.Trailer.{ends_marked, ends_back}
use Rattle.planfile.proofs.Front.{front_jobs, front_edges, front_slots, front_list}

-- the plan of a list and two tables that the check accepts
module _ (lim : Limits) (small : most_bytes lim < 2 ^ 32) (list lo hi : List ℕ) (yes : check_of lim list lo hi ≡ Ok tt) where
  abbrev rest : List ℕ
  rest = lo ++ (hi ++ trailer (length list + length lo + length hi))

  plan_split : plan_of list lo hi ≡ list ++ rest
  unfolding plan_of
  plan_split = simp append_assoc

  pair : Input lim list lo hi
  pair = pair_yes lim list lo hi yes

  list_bytes_lem : length list ≡ low_at list
  list_bytes_lem = list_length lim list pair.list

  rest_bytes : length rest ≡ 2 * slots list + trailer_bytes
  rest_bytes = rw (length-append lo, length-append hi) (omega (arith, pair.low.size, pair.high.size))

  at_low : low_at (list ++ rest) ≡ length list
  at_low =
      omega (arith, list_bytes_lem, front_jobs list rest (omega (arith, list_bytes_lem)), front_edges list rest (omega (arith, list_bytes_lem)))

  of_slots : slots (list ++ rest) ≡ slots list
  of_slots = front_slots list rest (omega (arith, list_bytes_lem))

  long : least_bytes ≤ length (list ++ rest)
  long = rw (length-append list rest) (omega (arith, list_bytes_lem, rest_bytes))

  whole_list : list_of (list ++ rest) ≡ list
  whole_list = part_some (list ++ rest) 0 _ long ∙ take_at list rest _ (sym at_low)

  whole_low : low_of (list ++ rest) ≡ lo
  whole_low =
      part_some (list ++ rest) _ _ long
      ∙ rw (drop_at list rest _ (sym at_low), of_slots) (take_at lo _ _ pair.low.size)

  whole_high : high_of (list ++ rest) ≡ hi
  whole_high =
      part_some (list ++ rest) _ _ long
      ∙ rw (at_low, of_slots, drop-append-add list rest (slots list), drop_at lo _ _ pair.low.size) (take_at hi _ _ pair.high.size)

  same_counts : shape_of (list ++ rest) ≡ shape_of list
  same_counts =
      rw (front_jobs list rest (omega (arith, list_bytes_lem)), front_edges list rest (omega (arith, list_bytes_lem)), of_slots)

  marked : u32_at (plan_of list lo hi) (length (plan_of list lo hi) - 4) ≡ u32_at mark 0
  unfolding plan_of
  marked = ends_marked (list ++ lo ++ hi) (length list + length lo + length hi)

  distance : length list + length lo + length hi < 2 ^ 32 → u32_at (plan_of list lo hi) (length (plan_of list lo hi) - trailer_bytes) ≡ length list + length lo + length hi
  unfolding plan_of
  distance = ends_back (list ++ lo ++ hi) (length list + length lo + length hi)

  back : u32_at (plan_of list lo hi) (length (plan_of list lo hi) - trailer_bytes) ≡ length (plan_of list lo hi) - trailer_bytes
  back =
      distance (omega (arith, pair_fits lim list lo hi yes))
      ∙ omega (arith, plan_length list lo hi)

  front : front_answer lim (high (plan_of list lo hi)) (plan_of list lo hi) (plan_bytes (jobs (plan_of list lo hi)) (edges (plan_of list lo hi)) (slots (plan_of list lo hi))) ≡ Ok tt
  front = rw plan_split (front_list list rest (omega (arith, list_bytes_lem)) lim rest_bytes ∙ pair.list)

  checked : check_of lim (list_of (plan_of list lo hi)) (low_of (plan_of list lo hi)) (high_of (plan_of list lo hi)) ≡ Ok tt
  checked = rw (plan_split, whole_list, whole_low, whole_high) yes

  pub plan_reads : ReadsBack lim (plan_of list lo hi) list lo hi
  plan_reads = record {
    answer = sym (read_rest lim (plan_of list lo hi) (rw plan_split long) marked back)
        ∙ sym (parts_plan lim (plan_of list lo hi) front checked)
        ∙ rw plan_split (ap Ok same_counts);
    list_part = rw plan_split whole_list;
    low_part = rw plan_split whole_low;
    high_part = rw plan_split whole_high;
  }
