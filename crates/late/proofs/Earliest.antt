-- Laws of earliest deadline first: one slot more, and that the choice depends on the jobs of the list alone.
-- Assumes nothing.
use Prim.Native.Nat.{ℕ, zero, suc, ◌+◌, ◌≤◌, ◌<◌}
use mathlib.Core.Path.{◌≡◌, refl, ap, ap₂, ◌∙◌}
use mathlib.Core.Logic.{inl, inr}
use mathlib.Core.List.{List}
use mathlib.Core.Bool.{Bool, not, ◌&&◌}
use native.Mathlib.Numerals.{add-one}
use native.Mathlib.Omega.{arith}
use lib.ListN.{length, set, length-set}
use lib.Dec.{leb, ltb, eqb}
use Rattle.basics.specs.Choice.{earliest}
use Rattle.basics.specs.Units.{units_of}
use Rattle.basics.proofs.Choice.{earliest_is, earliest_same}
use Rattle.basics.proofs.Below.{any_same}
use Rattle.joblist.specs.Fields.{jobs, edges, arrival, deadline, edge_from, edge_to}
use Rattle.late.specs.Table.{marked, waits}
use Rattle.late.specs.Late.{ready, takes, unfinished, chosen, edf_at}
use Rattle.late.proofs.Units.{Counted}

-- a choice is a byte
pub earliest_byte : (f : ℕ → Bool) (d : ℕ → ℕ) (n : ℕ) → n ≤ 255 → earliest f d n < 256
earliest_byte f d n h = elim (earliest_is f d n h) [ inl c ↦ omega (arith, c.0) | inr c ↦ omega (arith, c.below) ]

module _ (s : List ℕ) (named : (e : ℕ) → e < edges s → edge_from s (jobs s) e < jobs s) (f g : ℕ → Bool) (agree : (j : ℕ) → j < jobs s → f j ≡ g j) where
  pub waits_same : (j : ℕ) → waits s f j ≡ waits s g j
  unfolding waits
  waits_same j = any_same _ _ (edges s) (λ e h. ap (λ b. eqb (edge_to s (jobs s) e) j && b) (agree (edge_from s (jobs s) e) (named e h)))

  ready_same : (t j : ℕ) → j < jobs s → ready s f t j ≡ ready s g t j
  unfolding ready
  ready_same t j h = ap₂ (λ x y. leb (arrival s j) t && (x && not y)) (agree j h) (waits_same j)

  pub choice_same : (t : ℕ) → earliest (ready s f t) (deadline s) (jobs s) ≡ earliest (ready s g t) (deadline s) (jobs s)
  choice_same t = earliest_same (ready s f t) (ready s g t) (deadline s) (jobs s) (ready_same t)

module _ (s : List ℕ) (v : ℕ) where
  -- marks made from counted units are the unfinished jobs
  pub marks_are : (had table : List ℕ) (t : ℕ) (undone : List Bool) → Counted (jobs s) had table t
      → ((j : ℕ) → j < jobs s → marked undone j ≡ ltb (units_of had j) (takes s v j))
      → (j : ℕ) → j < jobs s → marked undone j ≡ unfinished s v table t j
  unfolding unfinished
  marks_are had table t undone c h j l = h j l ∙ ap (λ m. ltb m (takes s v j)) (c.count j l)

  module _ (start : List ℕ) where
    pub edf_zero : edf_at s v start 0 ≡ start
    unfolding edf_at
    edf_zero = refl

    pub edf_step : (t : ℕ) → edf_at s v start (t + 1) ≡ set (edf_at s v start t) t (chosen s v (edf_at s v start t) t)
    unfolding edf_at
    edf_step t = rw add-one

    pub edf_long : (t : ℕ) → length (edf_at s v start t) ≡ length start
    unfolding edf_at
    edf_long zero = refl
    edf_long (suc t) = length-set (edf_at s v start t) t _ ∙ edf_long t

    -- the choice, made with marks, fills the next slot
    pub edf_next : ((e : ℕ) → e < edges s → edge_from s (jobs s) e < jobs s) → (out : List ℕ) (t : ℕ) (undone : List Bool)
        → out ≡ edf_at s v start t → ((j : ℕ) → j < jobs s → marked undone j ≡ unfinished s v out t j)
        → set out t (earliest (ready s (marked undone) t) (deadline s) (jobs s)) ≡ edf_at s v start (t + 1)
    unfolding chosen
    edf_next named out t undone e h =
        rw (edf_step t, ← e) (ap (set out t) (choice_same s named (marked undone) (unfinished s v out t) h t))
