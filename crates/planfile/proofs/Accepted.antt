-- What an accepted list with its tables says, and what an accepted plan says.
-- Assumes nothing.
use Prim.Native.Nat.{ℕ, ◌+◌, ◌-◌, ◌≤◌}
use mathlib.Core.Path.{◌≡◌, refl}
use mathlib.Core.List.{List}
use native.Mathlib.Omega.{arith}
use borrow.Author.Tests.{eqb-true, leb-true}
use lib.ListN.{length}
use lib.Dec.{leb}
use Rattle.std.specs.Prelude.{Result, Ok, Err}
use Rattle.basics.specs.Bytes.{u32_at}
use Rattle.basics.specs.Limits.{Limits}
use Rattle.basics.proofs.Chain.{both_good, row_good}
use Rattle.joblist.specs.Fields.{jobs, edges, slots, high}
use Rattle.joblist.specs.Answer.{front_answer}
use Rattle.joblist.specs.declared.Why.{Why}
use Rattle.joblist.proofs.Accepted.{accepted, list_length}
use Rattle.verdict.proofs.Judged.{yes_good}
use Rattle.verdict.specs.Demand.{Input}
use Rattle.verdict.specs.Answer.{Verdict, of_list, check_of}
use Rattle.planfile.specs.Plan.{mark, trailer_bytes, plan_of, plan_bytes, least_bytes, most_bytes, list_of, low_of, high_of}
use Rattle.planfile.specs.Answer.{reading, parts_answer, read_of, writing, write_of}
use Rattle.planfile.specs.declared.Shape.{Shape}
use Rattle.planfile.specs.declared.WriteWhy.TheVariants.{Room}

-- a list and two tables that the check accepts
module _ (lim : Limits) (s lo hi : List ℕ) (yes : check_of lim s lo hi ≡ Ok tt) where
  pub pair_yes : Input lim s lo hi
  pair_yes = (yes_good lim s lo hi yes).0

  -- their plan is no longer than the limits allow
  pub pair_fits : length s + length lo + length hi + trailer_bytes ≤ most_bytes lim
  pair_fits =
      let p = pair_yes in
      let a = accepted lim s p.list in
      omega (arith, list_length lim s p.list, p.low.size, p.high.size, a.most_jobs, a.most_edges, a.most_slots)

written_yes : (v : Verdict) → writing v ≡ Ok tt → v ≡ Ok tt
written_yes (Ok x) h = refl
written_yes (Err w) h = cc

-- a write that says a length: the check says yes, the length is the plan's, and there is room
pub wrote_yes : (lim : Limits) (list lo hi : List ℕ) (room size : ℕ) → write_of lim list lo hi room ≡ Ok size → (check_of lim list lo hi ≡ Ok tt) × (length (plan_of list lo hi) ≡ size) × (length (plan_of list lo hi) ≤ room)
unfolding write_of
wrote_yes lim list lo hi room size h =
    let v = both_good (writing (check_of lim list lo hi)) _ h in
    let r = row_good (leb (length (plan_of list lo hi)) room) Room (Ok (length (plan_of list lo hi))) v.1 in
    (written_yes _ v.0, (let z : length (plan_of list lo hi) ≡ size = cc in z), leb-true _ _ r.0)

-- a plan that the reader accepts
pub record Read (lim : Limits) (s : List ℕ) : Type 0 where
  pub long : least_bytes ≤ length s
  pub marked : u32_at s (length s - 4) ≡ u32_at mark 0
  pub back : u32_at s (length s - trailer_bytes) ≡ length s - trailer_bytes
  pub front : front_answer lim (high s) s (plan_bytes (jobs s) (edges s) (slots s)) ≡ Ok tt
  pub checked : check_of lim (list_of s) (low_of s) (high_of s) ≡ Ok tt

read_list : (a : Result Unit Why) → reading (of_list a) ≡ Ok tt → a ≡ Ok tt
read_list (Ok x) h = refl
read_list (Err w) h = cc

read_check : (v : Verdict) → reading v ≡ Ok tt → v ≡ Ok tt
read_check (Ok x) h = refl
read_check (Err w) h = cc

pub read_yes : (lim : Limits) (s : List ℕ) (x : Shape) → read_of lim s ≡ Ok x → Read lim s
unfolding read_of parts_answer
read_yes lim s x h =
    let a = row_good _ _ _ h in
    let b = row_good _ _ _ a.1 in
    let c = row_good _ _ _ b.1 in
    let f = both_good _ _ c.1 in
    let v = both_good _ _ f.1 in
    record {
      long = leb-true _ _ a.0;
      marked = eqb-true _ _ b.0;
      back = eqb-true _ _ c.0;
      front = read_list _ f.0;
      checked = read_check _ v.0;
    }
