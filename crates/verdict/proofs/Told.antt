-- What a search finds, as the code says it.
-- Assumes nothing.
use mathlib.Core.Bool.{Bool, ◌&&◌, cond, false, true}
use mathlib.Core.List.{List, [], ◌∷◌}
use mathlib.Core.Option.{Option, none, some}
use mathlib.Core.Path.{◌∙◌, ◌≡◌, ap, refl, sym}
use Prim.Native.Nat.{◌<◌, ◌≤◌, ℕ}
use native.Mathlib.Omega.{arith}
use borrow.Author.Tests.{eqb-true, le-ltb, lt-ltb, ne_eqb}
use lib.Dec.{eqb, ltb}
use Rattle.basics.specs.Marks.{no_switch}
use Rattle.basics.specs.Units.{units_of}
use Rattle.frame.specs.Execution.{State, state, waits_for}
use Rattle.frame.specs.Search.{Finding, before_if, early_if, fault_of, found, late_if, late_job, nothing, or_else, owed}
use Rattle.joblist.specs.Fields.{arrival}
use Rattle.verdict.specs.Answer.{switch_of}
use Rattle.verdict.specs.Inner.{Search, chain_of, first_of, square, told}
use Rattle.verdict.proofs.Find.{first_none, first_some}
use Rattle.frame.specs.Jobs.{Frame}
use Rattle.verdict.specs.declared.Fault.{Fault}
use Rattle.verdict.specs.declared.Fault.TheVariants.{Before, Early, Late}
use Rattle.std.specs.Prelude.{Some, None, Ok, Err}

pub told_fine : (a : Finding) → told a ≡ Ok tt → a ≡ nothing
told_fine nothing h = refl
told_fine (found f) h = let z : ◌≡◌ {A = ℕ} 0 1 = cc in absurd (omega arith)

pub told_found : (a r : Finding) (w : Fault) → told a ≡ Err w → told (or_else a r) ≡ Err w
told_found nothing r w h = let z : ◌≡◌ {A = ℕ} 0 1 = cc in absurd (omega arith)
told_found (found f) r w h = h

pub told_then : (a r : Finding) → told a ≡ Ok tt → or_else a r ≡ r
told_then a r h = ap (λ (x : Finding). or_else x r) (told_fine a h)

-- a switch slot is the one of its chain
pub switch_chain : (x : ℕ) → switch_of (chain_of x) ≡ x
switch_chain x = go (eqb x no_switch) refl
  where
    go : (b : Bool) → eqb x no_switch ≡ b → switch_of (cond b [] (x ∷ [])) ≡ x
    go true p = sym (eqb-true _ _ p)
    go false p = refl

pub chain_at : (t : ℕ) → t < no_switch → t ∷ [] ≡ chain_of t
chain_at t h = sym (ap (λ (x : Bool). cond x [] (t ∷ [])) (ne_eqb t no_switch (omega arith)))

-- the first fault at the opening of a slot, case by case
module _ (s : List ℕ) (n : ℕ) (b : List Bool) (need : List ℕ) (t mode q x : ℕ) (had : List ℕ) (j : ℕ) where
  abbrev F : Frame
  F = square s n b

  abbrev z : State
  z = state mode q (chain_of x) had

  abbrev here : Search
  here = told (fault_of F (units_of need) t z j)

  here_is : (o : Option ℕ) (w p : Bool) (o' : Option ℕ) → late_job F (units_of need) t q had ≡ o → owed F (units_of need) mode had j ≡ w → ltb t (arrival s j) ≡ p → waits_for F (units_of need) had j ≡ o'
      → here ≡ told (or_else (late_if t z o) (or_else (early_if t z j (w && p)) (before_if t z j w o')))
  unfolding fault_of
  here_is o w p o' e f g h = λ i. told (or_else (late_if t z (e i)) (or_else (early_if t z j (f i && g i)) (before_if t z j (f i) (h i))))

  pub fault_late : (i : ℕ) → first_of (late_job F (units_of need) t q had) ≡ Some i → Err (Late t i x) ≡ here
  fault_late i h = sym (here_is (some i) _ _ _ (first_some _ i h) refl refl refl ∙ ap (λ (y : ℕ). Err (Late t i y)) (switch_chain x))

  module _ (none-late : first_of (late_job F (units_of need) t q had) ≡ None) where
    pub fault_not_owed : owed F (units_of need) mode had j ≡ false → Ok tt ≡ here
    fault_not_owed w = sym (here_is none false _ _ (first_none _ none-late) w refl refl)

    module _ (w : owed F (units_of need) mode had j ≡ true) where
      pub fault_early : t < arrival s j → Err (Early t j x) ≡ here
      fault_early h = sym (here_is none true true _ (first_none _ none-late) w (lt-ltb t (arrival s j) h) refl ∙ ap (λ (y : ℕ). Err (Early t j y)) (switch_chain x))

      module _ (arrived : arrival s j ≤ t) where
        pub fault_before : (p : ℕ) → first_of (waits_for F (units_of need) had j) ≡ Some p → Err (Before t j p x) ≡ here
        fault_before p h = sym (here_is none true false (some p) (first_none _ none-late) w (le-ltb t (arrival s j) arrived) (first_some _ p h) ∙ ap (λ (y : ℕ). Err (Before t j p y)) (switch_chain x))

        pub fault_none : first_of (waits_for F (units_of need) had j) ≡ None → Ok tt ≡ here
        fault_none h = sym (here_is none true false none (first_none _ none-late) w (le-ltb t (arrival s j) arrived) (first_none _ h))
