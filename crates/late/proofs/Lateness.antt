-- Laws of the first late job: one job more, one slot more.
-- Assumes nothing.
use Prim.Native.Nat.{ℕ, ◌+◌, ◌≤◌, ◌<◌}
use mathlib.Core.Path.{◌≡◌, refl, ap, ◌∙◌}
use mathlib.Core.List.{List}
use mathlib.Core.Bool.{Bool, true, false, cond, ◌&&◌, and-false}
use native.Mathlib.Omega.{arith}
use borrow.Author.Tests.{eq-eqb, ne_eqb}
use lib.Dec.{eqb}
use Rattle.basics.specs.Turns.{turns}
use Rattle.basics.proofs.Turns.{turns_step, turns_end, turns_same}
use Rattle.joblist.specs.Fields.{jobs, slots, deadline}
use Rattle.late.specs.declared.Late.{Late}
use Rattle.std.specs.Prelude.{Result, Ok, Err}
use Rattle.std.specs.Result.{result_and}
use Rattle.late.specs.Late.{at, late_at, late_in}

-- nothing is refused where both answers are yes
pub both_ok : {E : Type 0} (x y : Result (Unit {0}) E) → result_and x y ≡ Ok tt → (x ≡ Ok tt) × (y ≡ Ok tt)
both_ok (Ok x) y h = (refl, h)
both_ok (Err e) y h = absurd (cc)

module _ (s : List ℕ) (undone : ℕ → Bool) (t : ℕ) where
  -- what the jobs from j on answer
  abbrev pub from : ℕ → Result (Unit {0}) Late
  from j = turns result_and (Ok tt) (late_at s undone t) (jobs s) j

  pub late_hit : (j : ℕ) → j < jobs s → deadline s j ≡ t → undone j ≡ true → from j ≡ at t j
  unfolding late_at
  late_hit j h d u =
      turns_step result_and (Ok tt) (late_at s undone t) (jobs s) j h ∙ rw (eq-eqb (deadline s j) t d, u)

  pub late_other : (j : ℕ) → j < jobs s → ¬ (deadline s j ≡ t) → from j ≡ from (j + 1)
  unfolding late_at
  late_other j h d = turns_step result_and (Ok tt) (late_at s undone t) (jobs s) j h ∙ rw (ne_eqb (deadline s j) t d)

  pub late_done : (j : ℕ) → j < jobs s → undone j ≡ false → from j ≡ from (j + 1)
  unfolding late_at
  late_done j h u =
      turns_step result_and (Ok tt) (late_at s undone t) (jobs s) j h ∙ rw (u, and-false (eqb (deadline s j) t))

  pub late_end : (j : ℕ) → jobs s ≤ j → from j ≡ Ok tt
  late_end j h = turns_end result_and (Ok tt) (late_at s undone t) (jobs s) j h

-- two tests that agree on the jobs
pub late_same : (s : List ℕ) (f g : ℕ → Bool) (t : ℕ) → ((j : ℕ) → j < jobs s → f j ≡ g j) → turns result_and (Ok tt) (late_at s f t) (jobs s) 0 ≡ turns result_and (Ok tt) (late_at s g t) (jobs s) 0
unfolding late_at
late_same s f g t h =
    turns_same result_and (Ok tt) _ _ (jobs s) (λ j l. ap (λ b. cond (eqb (deadline s j) t && b) (at t j) (Ok tt)) (h j l))

module _ (s : List ℕ) (v : ℕ) (table : List ℕ) where
  -- what the slots from t on answer, to L
  abbrev pub onward : ℕ → Result (Unit {0}) Late
  onward t = turns result_and (Ok tt) (late_in s v table) (slots s + 1) t

  pub onward_fine : (t : ℕ) → t < slots s → late_in s v table t ≡ Ok tt → onward t ≡ onward (t + 1)
  onward_fine t h e = turns_step result_and (Ok tt) (late_in s v table) (slots s + 1) t (omega arith) ∙ ap (λ x. result_and x (onward (t + 1))) e

  pub onward_late : (t : ℕ) (e : Late) → t < slots s → late_in s v table t ≡ Err e → onward t ≡ Err e
  onward_late t e h p =
      turns_step result_and (Ok tt) (late_in s v table) (slots s + 1) t (omega arith) ∙ ap (λ y. result_and y (onward (t + 1))) p

  pub onward_last : onward (slots s) ≡ late_in s v table (slots s)
  onward_last =
      turns_step result_and (Ok tt) (late_in s v table) (slots s + 1) (slots s) (omega arith)
      ∙ ap (result_and (late_in s v table (slots s))) (turns_end result_and (Ok tt) (late_in s v table) (slots s + 1) (slots s + 1) (omega arith))
      ∙ last (late_in s v table (slots s))
    where
      last : (x : Result (Unit {0}) Late) → result_and x (Ok tt) ≡ x
      last (Ok x) = refl
      last (Err e) = refl
