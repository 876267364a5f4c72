-- Where no job is late, each unit's own slot serves, and the moved units stand in their jobs' windows.
-- Assumes nothing.
use Rattle.joblist.specs.Accepted.{Accepted}
use Rattle.joblist.specs.Fields.{jobs, edges, slots, arrival, deadline, edge_in}
use Rattle.basics.specs.Find.{lowest}
use Rattle.basics.specs.Limits.{Limits}
use Rattle.basics.specs.Marks.{idle}
use lib.Dec.{ltb}
use lib.Seq.{get_or-set_same, get_or-set_other}
use lib.ListN.{length, set, length-set}
use borrow.Author.Tests.{lt-ltb, le-ltb, ltb-true, ltb-false}
use native.Mathlib.Decide.{ℕ_discrete, dec_lt}
use native.Mathlib.Omega.{arith}
use native.Mathlib.Numerals.{add-one}
use mathlib.Core.Bool.{Bool, true, false, ◌&&◌}
use mathlib.Core.List.{List}
use mathlib.Core.Path.{◌≡◌, refl, ap, ◌∙◌}
use Prim.Native.Nat.{ℕ, zero, suc, ◌+◌, ◌-◌, ◌≤◌, ◌<◌}
use Rattle.basics.proofs.Tests.{and_both, not_both}
use Rattle.late.specs.Table.{entry, held, empty}
use Rattle.std.specs.Prelude.{Ok}
use Rattle.late.specs.Meaning.{Ordered}
use Rattle.late.specs.Late.{chosen, late_answer, holds_next, target, move, moved}
use Rattle.late.proofs.EdfTable.{arrived}
use Rattle.late.proofs.InTime.{order, in_time_lem}
use Rattle.late.proofs.Moving.{move_held, move_idle, moved_zero, moved_step, lowest_most, highest_most, target_most}
use Rattle.late.proofs.Later.{lowest_above, lowest_miss, highest_above, cleared}

module _ (lim : Limits) (s : List ℕ) (acc : Accepted lim s) (few : jobs s ≤ 254) (v : ℕ) (filled : List ℕ) (size : length filled ≡ slots s)
    (Chosen-at : (x : ℕ) → x < slots s → entry filled x ≡ chosen s v filled x) (fine : late_answer s v filled ≡ Ok tt) where
  -- when the last k slots had their turn: the others are as they were, the units in those stand in their windows, and no unit of a job stands at or past one of its successor
  pub record Stage (k : ℕ) (table : List ℕ) : Type 0 where
    pub long : length table ≡ slots s
    pub same : (x : ℕ) → x < slots s - k → entry table x ≡ entry filled x
    pub window : (x : ℕ) → slots s - k ≤ x → x < slots s → entry table x < jobs s → (arrival s (entry table x) ≤ x) × (x < deadline s (entry table x))
    pub ordered : Ordered s table

  stage_zero : Stage 0 filled
  stage_zero =
      record {
        long = size;
        same = λ x h. refl;
        window = λ x h l. absurd (omega arith);
        ordered = λ x y i h. order s v few filled Chosen-at x y i h;
      }

  module _ (k : ℕ) (less : k < slots s) (table : List ℕ) (st : Stage k table) where
    -- the slot whose turn it is, its job, the table without the unit, and where the unit goes
    abbrev pub t : ℕ
    t = slots s - 1 - k

    abbrev pub j : ℕ
    j = entry table t

    abbrev pub bare : List ℕ
    bare = set table t idle

    abbrev pub goal : ℕ
    goal = target s bare j t

    own : j ≡ entry filled t
    own = st.same t (omega arith)

    here : t < length table
    here = let e = st.long in omega arith

    module _ (job : j < jobs s) where
      -- no slot up to its own is held by a successor
      miss : (x : ℕ) → x ≤ t → holds_next s bare j x ≡ false
      miss x h = go (ℕ_discrete x t)
        where
          next : (b : Bool) → edge_in s (jobs s) (edges s) (entry filled t) (entry filled x) ≡ b → entry filled x < jobs s → b ≡ false
          next false e l = refl
          next true e l = absurd (order s v few filled Chosen-at t x (omega arith) h (rw own at job) l e)

          other : Dec (entry filled x < jobs s) → (ltb (entry filled x) (jobs s) && edge_in s (jobs s) (edges s) (entry filled t) (entry filled x)) ≡ false
          other (no p) = rw (le-ltb (entry filled x) (jobs s) (omega arith))
          other (yes p) = rw (lt-ltb (entry filled x) (jobs s) p) (next _ refl p)

          go : Dec (x ≡ t) → holds_next s bare j x ≡ false
          go (yes p) = rw (p, get_or-set_same table t idle 0 here, le-ltb idle (jobs s) (omega arith))
          go (no p) = rw (get_or-set_other table t x idle 0 p, st.same x (omega arith), own) (other (dec_lt (entry filled x) (jobs s)))

      pub own_below : t < lowest (holds_next s bare j) (deadline s j) 0
      own_below = lowest_above (holds_next s bare j) (deadline s j) t (rw own (in_time_lem s v few filled Chosen-at fine t (omega arith) (rw own at job))) miss

      pub own_free : empty s bare t ≡ true
      own_free = cleared s few table t here

      pub own_later : t ≤ goal
      unfolding target
      own_later = highest_above (empty s bare) t (lowest (holds_next s bare j) (deadline s j) 0) t own_below own_free

      goal_due : goal < deadline s j
      unfolding target
      goal_due =
          let m = lowest_most (holds_next s bare j) (deadline s j) in
          highest_most (empty s bare) t (lowest (holds_next s bare j) (deadline s j) 0) (deadline s j) (let b = own_below in omega arith) m

      -- a slot other than the unit's new one holds what it held, and not the unit
      elsewhere : (x : ℕ) → ¬ (x ≡ goal) → entry (set bare goal j) x < jobs s → (entry (set bare goal j) x ≡ entry table x) × (entry bare x ≡ entry table x) × ¬ (x ≡ t)
      elsewhere x p l = go (ℕ_discrete x t)
        where
          e : entry (set bare goal j) x ≡ entry bare x
          e = get_or-set_other bare goal x j 0 p

          go : Dec (x ≡ t) → (entry (set bare goal j) x ≡ entry table x) × (entry bare x ≡ entry table x) × ¬ (x ≡ t)
          go (yes q) =
              let z : entry (set bare goal j) x ≡ idle = e ∙ rw q (get_or-set_same table t idle 0 here) in
              absurd (omega arith)
          go (no q) =
              let z = get_or-set_other table t x idle 0 q in
              (e ∙ z, z, q)

      at_goal : (x : ℕ) → x ≡ goal → entry (set bare goal j) x ≡ j
      at_goal x p = rw p (get_or-set_same bare goal j 0 (let n = length-set table t idle in let b = target_most lim s bare j t acc job (omega arith) in omega (arith, st.long)))

      goal_free : (y : ℕ) → y ≤ goal → holds_next s bare j y ≡ false
      unfolding target
      goal_free y h =
          lowest_miss (holds_next s bare j) (deadline s j) y
          (omega (arith, h, highest_most (empty s bare) t (lowest (holds_next s bare j) (deadline s j) 0) (lowest (holds_next s bare j) (deadline s j) 0) own_below (omega arith)))

      stays_ordered : Ordered s (set bare goal j)
      stays_ordered x y i h lx ly e = go (ℕ_discrete x goal) (ℕ_discrete y goal)
        where
          go : Dec (x ≡ goal) → Dec (y ≡ goal) → ⊥
          go (yes p) (yes q) = order s v few filled Chosen-at t t (omega arith) (omega arith) (rw own at job) (rw own at job) (rw (at_goal x p, at_goal y q, own) at e)
          go (yes p) (no q) =
              let z = elsewhere y q ly in
              let a = rw (z.0, ← z.1) at (lt-ltb (entry (set bare goal j) y) (jobs s) ly) in
              let b = rw (at_goal x p, z.0, ← z.1) at e in
              not_both (and_both (ltb (entry bare y) (jobs s)) (edge_in s (jobs s) (edges s) j (entry bare y)) a b) (goal_free y (omega arith))
          go (no p) (yes q) =
              let z = elsewhere x p lx in
              st.ordered x t i (let m = own_later in omega arith) (rw z.0 at lx) job (rw (z.0, at_goal y q) at e)
          go (no p) (no q) =
              let a = elsewhere x p lx in
              let b = elsewhere y q ly in
              st.ordered x y i h (rw a.0 at lx) (rw b.0 at ly) (rw (a.0, b.0) at e)

      stage_move : Stage (k + 1) (set bare goal j)
      stage_move =
          record {
            long = length-set bare goal j ∙ length-set table t idle ∙ st.long;
            same = λ x h. get_or-set_other bare goal x j 0 (λ p. let q = own_later in omega arith) ∙ get_or-set_other table t x idle 0 (λ p. omega arith) ∙ st.same x (omega arith);
            window = λ x h i. windows x h i (ℕ_discrete x goal);
            ordered = stays_ordered;
          }
        where
          windows : (x : ℕ) → slots s - (k + 1) ≤ x → x < slots s → Dec (x ≡ goal) → entry (set bare goal j) x < jobs s
              → (arrival s (entry (set bare goal j) x) ≤ x) × (x < deadline s (entry (set bare goal j) x))
          windows x h i (yes p) l =
              rw (at_goal x p) (omega (arith, arrived s v few filled Chosen-at t (omega arith) (rw own at job), ap (arrival s) own, own_later), omega (arith, goal_due))
          windows x h i (no p) l =
              let z = elsewhere x p l in
              rw z.0 (st.window x (omega (arith, z.2)) i (rw z.0 at l))

    stage_stay : jobs s ≤ j → Stage (k + 1) table
    stage_stay idles =
        record {
          long = st.long;
          same = λ x h. st.same x (omega arith);
          window = λ x h i. windows x h i (ℕ_discrete x t);
          ordered = st.ordered;
        }
      where
        windows : (x : ℕ) → slots s - (k + 1) ≤ x → x < slots s → Dec (x ≡ t) → entry table x < jobs s → (arrival s (entry table x) ≤ x) × (x < deadline s (entry table x))
        windows x h i (yes q) l = let z = ap (entry table) q in absurd (omega arith)
        windows x h i (no q) l = st.window x (omega arith) i l

    stage_next : Stage (k + 1) (move s table t)
    stage_next = go (held s table t) refl
      where
        go : (b : Bool) → held s table t ≡ b → Stage (k + 1) (move s table t)
        go true e = rw (move_held s table t e) (stage_move (ltb-true j (jobs s) e))
        go false e = rw (move_idle s table t e) (stage_stay (ltb-false j (jobs s) e))

  pub stage : (k : ℕ) → k ≤ slots s → Stage k (moved s filled k)
  stage zero h = rw (moved_zero s filled) stage_zero
  stage (suc k) h = rw (← add-one k, moved_step s filled k) (stage_next k (omega arith) (moved s filled k) (stage k (omega arith)))

  pub moved_ordered : Ordered s (moved s filled (slots s))
  moved_ordered = (stage (slots s) (omega arith)).ordered

  pub moved_window : (x : ℕ) → x < slots s → entry (moved s filled (slots s)) x < jobs s
      → (arrival s (entry (moved s filled (slots s)) x) ≤ x) × (x < deadline s (entry (moved s filled (slots s)) x))
  moved_window x h l = (stage (slots s) (omega arith)).window x (omega arith) h l
