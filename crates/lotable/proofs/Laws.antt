-- Laws of table LO: one slot more, and where the units come from.
-- Assumes nothing.
use Prim.Native.Nat.{ℕ, ◌+◌, ◌≤◌, ◌<◌, zero, suc}
use mathlib.Core.Path.{◌≡◌, refl, sym, ap, subst, ◌∙◌}
use mathlib.Core.List.{List}
use mathlib.Core.Bool.{Bool, true, false, cond}
use native.Mathlib.Numerals.{add-one}
use borrow.Author.Tests.{ltb-true}
use lib.ListN.{length, length-set}
use lib.Dec.{ltb}
use Rattle.basics.specs.Marks.{idle}
use Rattle.basics.specs.Turns.{turns}
use Rattle.basics.specs.Find.{lowest}
use Rattle.basics.specs.Units.{units_of}
use Rattle.basics.proofs.Turns.{turns_step, turns_end}
use Rattle.joblist.specs.Fields.{jobs, edges, slots, ordinary, edge_from}
use Rattle.late.specs.Table.{entry, marked, held, waits}
use Rattle.late.proofs.Units.{Counted}
use Rattle.late.proofs.Earliest.{waits_same}
use Rattle.std.specs.Prelude.{Option, Some, None, Result, Ok, Err}
use Rattle.std.specs.Result.{result_and}
use Rattle.lotable.specs.declared.Source.{Source}
use Rattle.lotable.specs.declared.Source.TheVariants.{Low, High}
use Rattle.lotable.specs.declared.Clash.{Clash}
use Rattle.lotable.specs.TableLo.{before, Pick, clash, take, Tables, fits, later, pick, unplaced, pick_at, tables_at, clash_at}

-- a unit that is taken stands in a slot below l, and a clash is one at t
abbrev Within : ℕ → ℕ → Pick → Type 0
Within l t (Ok (Some (Low k))) = k < l
Within l t (Ok (Some (High k))) = k < l
Within l t (Ok None) = Unit {0}
Within l t (Err e) = (n : ℕ) → before n (Err e) ≡ t

-- what both cases have
by_test : {A : Type 0} (P : A → Type 0) (b : Bool) {x y : A} → (b ≡ true → P x) → (b ≡ false → P y) → P (cond b x y)
by_test P true p q = p refl
by_test P false p q = q refl

module _ (s : List ℕ) (waiting : ℕ → Bool) (low high : List ℕ) (t : ℕ) (h : t < slots s) where
  later_within : Within (slots s) t (Ok (later s waiting low high t))
  unfolding later
  later_within =
      let p = lowest (fits s waiting low t) (slots s) (t + 1) in
      let q = lowest (fits s waiting high t) (slots s) (t + 1) in
      let P : Option Source → Type 0 = λ o. Within (slots s) t (Ok o) in
      by_test P (ltb p (slots s)) (λ e. ltb-true p (slots s) e) (λ e. by_test P (ltb q (slots s)) (λ f. ltb-true q (slots s) f) (λ f. tt))

  pick_within : Within (slots s) t (pick s waiting low high t)
  unfolding pick
  pick_within =
      let P = Within (slots s) t in
      by_test P (held s high t) (λ e. by_test P (held s low t) (λ f n. refl) (λ f. h))
      (λ e. by_test P (held s low t) (λ f. by_test P (waiting (entry low t)) (λ g n. refl) (λ g. h)) (λ f. later_within))

  pub pick_low : (k : ℕ) → pick s waiting low high t ≡ Ok (Some (Low k)) → k < slots s
  pick_low k e = subst (Within (slots s) t) e pick_within

  pub pick_high : (k : ℕ) → pick s waiting low high t ≡ Ok (Some (High k)) → k < slots s
  pick_high k e = subst (Within (slots s) t) e pick_within

  pub pick_clash : (x : Clash) → pick s waiting low high t ≡ Err x → (n : ℕ) → before n (Err x) ≡ t
  pick_clash x e = subst (Within (slots s) t) e pick_within

module _ (s : List ℕ) (start : Tables) where
  pub tables_zero : tables_at s start 0 ≡ start
  unfolding tables_at
  tables_zero = refl

  pub tables_step : (t : ℕ) → tables_at s start (t + 1) ≡ take (tables_at s start t) t (pick_at s (tables_at s start t) t)
  unfolding tables_at
  tables_step t = rw add-one

  -- what the slots from t on answer
  abbrev pub onward : ℕ → Result (Unit {0}) Clash
  onward t = turns result_and (Ok tt) (clash_at s start) (slots s) t

  pub onward_fine : (t : ℕ) → t < slots s → clash_at s start t ≡ Ok tt → onward t ≡ onward (t + 1)
  onward_fine t h e =
      turns_step result_and (Ok tt) (clash_at s start) (slots s) t h ∙ ap (λ x. result_and x (onward (t + 1))) e

  pub onward_clash : (t : ℕ) (x : Clash) → t < slots s → clash_at s start t ≡ Err x → onward t ≡ Err x
  onward_clash t x h e =
      turns_step result_and (Ok tt) (clash_at s start) (slots s) t h ∙ ap (λ y. result_and y (onward (t + 1))) e

  pub onward_end : (t : ℕ) → slots s ≤ t → onward t ≡ Ok tt
  onward_end t h = turns_end result_and (Ok tt) (clash_at s start) (slots s) t h

-- the unit of slot t, picked with marks: the jobs that wait are those that wait by the units placed
module _ (s : List ℕ) (named : (e : ℕ) → e < edges s → edge_from s (jobs s) e < jobs s) (start now : Tables) (t : ℕ) (at : tables_at s start t ≡ now)
    (placed : List ℕ) (c : Counted (jobs s) placed now.lo t) (undone waiting : List Bool)
    (u : (j : ℕ) → j < jobs s → marked undone j ≡ ltb (units_of placed j) (ordinary s j)) (w : (j : ℕ) → marked waiting j ≡ waits s (marked undone) j) where
  waiting_are : (j : ℕ) → marked waiting j ≡ waits s (unplaced s now.lo t) j
  unfolding unplaced
  waiting_are j =
      w j ∙ waits_same s named (marked undone) (unplaced s now.lo t) (λ i h. u i h ∙ ap (λ m. ltb m (ordinary s i)) (c.count i h)) j

  pub picked : (p : Pick) → pick s (marked waiting) now.low now.high t ≡ p → pick_at s (tables_at s start t) t ≡ p
  picked p e = rw at ((λ z. pick s (λ j. sym (waiting_are j) z) now.low now.high t) ∙ e)

  pub table_next : (p : Pick) → pick s (marked waiting) now.low now.high t ≡ p → tables_at s start (t + 1) ≡ take now t p
  table_next p e = tables_step s start t ∙ rw (picked p e, at)

  pub clash_is : (p : Pick) → pick s (marked waiting) now.low now.high t ≡ p → clash_at s start t ≡ clash p
  clash_is p e = ap clash (picked p e)

-- table LO has as many slots as what it is made in
lo_take : (p : Tables) (t : ℕ) (k : Pick) → length (take p t k).lo ≡ length p.lo
lo_take p t (Ok (Some (Low k))) = length-set p.lo t (entry p.low k)
lo_take p t (Ok (Some (High k))) = length-set p.lo t (entry p.high k)
lo_take p t (Ok None) = length-set p.lo t idle
lo_take p t (Err e) = refl

pub lo_long : (s : List ℕ) (start : Tables) (t : ℕ) → length (tables_at s start t).lo ≡ length start.lo
unfolding tables_at
lo_long s start zero = refl
lo_long s start (suc t) = lo_take (tables_at s start t) t (pick_at s (tables_at s start t) t) ∙ lo_long s start t
