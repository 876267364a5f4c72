-- Booking, case by case: what each way through `book` leaves is what the definition says.
-- Assumes nothing.
use Rattle.std.proofs.Common.{◌≡◌, ℕ, ◌<◌, ◌≤◌, Bool, true, false, List, set, sym, ap, eq-eqb, ne_eqb, le-leb}
use borrow.Author.Tests.{lt-leb}
use Rattle.basics.specs.Choice.{pick}
use Rattle.basics.specs.Limits.{Limits}
use Rattle.basics.specs.Marks.{idle}
use Rattle.basics.proofs.Choice.{pick_true, pick_false}
use Rattle.machine.specs.declared.head.Head.{Head}
use Rattle.parts.specs.Plan.{clo_of, level_of}
use Rattle.machine.specs.Run.{Run, joined, with_high}
use Rattle.machine.specs.Machine.{units_of, book_job, book_of}
use Rattle.parts.proofs.Marks.{mark_clear, mark_set}

pub joined_as : (h g : Head) (u d c : List ℕ) → h ≡ g → joined h u d c ≡ joined g u d c
joined_as h g u d c q = ap (λ (x : Head). joined x u d c) q

-- no job was ordered
pub book_idle : (lim : Limits) (jobs : List ℕ) (r : Run) (e : Bool) → r.head.ordered ≡ idle → r ≡ book_of lim jobs r e
unfolding book_of
book_idle lim jobs r e q = sym (pick_true _ _ _ (eq-eqb _ _ q))

module _ (lim : Limits) (jobs : List ℕ) (h : Head) (us ds cs : List ℕ) (u : ℕ) (e : Bool) (i : h.ordered ≡ idle → ⊥) (q : u ≡ units_of lim (joined h us ds cs)) where
  abbrev r : Run
  r = joined h us ds cs

  abbrev counted : List ℕ
  counted = set us h.ordered u

  is_job : book_job lim jobs r e ≡ book_of lim jobs r e
  unfolding book_of
  is_job = sym (pick_false _ _ _ (ne_eqb _ _ i))

  pub book_ended : e ≡ true → joined h counted (set ds h.ordered 1) cs ≡ book_of lim jobs r e
  unfolding book_job pick
  book_ended a = rw (← is_job) (simp (a, q))

  pub book_under : e ≡ false → u < clo_of jobs h.ordered → joined h counted ds cs ≡ book_of lim jobs r e
  unfolding book_job pick
  book_under a l = rw (← is_job) (simp (a, ← q, lt-leb _ _ l))

  module _ (a : e ≡ false) (l : clo_of jobs h.ordered ≤ u) where
    pub book_high : level_of jobs h.ordered ≡ 1 → (h.high ≡ 0 → ⊥) → joined h counted ds cs ≡ book_of lim jobs r e
    unfolding book_job pick
    book_high v k = rw (← is_job) (simp (a, ← q, le-leb _ _ l, eq-eqb _ _ v, mark_set _ k))

    pub book_switch : level_of jobs h.ordered ≡ 1 → h.high ≡ 0 → joined (with_high h 1) counted ds cs ≡ book_of lim jobs r e
    unfolding book_job pick
    book_switch v k = rw (← is_job) (simp (a, ← q, le-leb _ _ l, eq-eqb _ _ v, mark_clear _ k))

    pub book_cut : (level_of jobs h.ordered ≡ 1 → ⊥) → joined h counted ds (set cs h.ordered 1) ≡ book_of lim jobs r e
    unfolding book_job pick
    book_cut v = rw (← is_job) (simp (a, ← q, le-leb _ _ l, ne_eqb _ _ v))
