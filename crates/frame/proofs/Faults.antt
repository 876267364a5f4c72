-- What the look at one slot finds, and what it passes.
-- Assumes nothing.
use mathlib.Core.Bool.{Bool, ◌&&◌, false, true}
use mathlib.Core.List.{List}
use mathlib.Core.Logic.{◌⊎◌, inl, inr}
use mathlib.Core.Option.{Option, none, some}
use mathlib.Core.Path.{◌≡◌, refl, subst}
use Prim.Native.Nat.{◌<◌, ◌≤◌, ℕ}
use native.Mathlib.Omega.{arith}
use lib.Dec.{T, eqb, eqb→eq, leb, leb→le, le→leb, ltb, ltb→lt, lt→ltb}
use Rattle.basics.proofs.Find.{find_none, find_some}
use Rattle.basics.proofs.Tests.{and_i, and_l, and_r, eq→eqb}
use Rattle.basics.specs.Units.{units_of}
use Rattle.frame.specs.Execution.{Bad, Badness, State, before, early, late, waits_for}
use Rattle.frame.specs.Jobs.{Frame}
use Rattle.frame.specs.Search.{Fault, Finding, before_if, early_if, fault_at, fault_of, fault_with, found, late_if, late_job, nothing, or_else, owed}

pub or_nothing_l : (a b : Finding) → or_else a b ≡ nothing → a ≡ nothing
or_nothing_l nothing b e = refl
or_nothing_l (found f) b e = cc

pub or_nothing_r : (a b : Finding) → or_else a b ≡ nothing → b ≡ nothing
or_nothing_r nothing b e = e
or_nothing_r (found f) b e = cc

pub or_found : (a b : Finding) (f : Fault) → or_else a b ≡ found f → (a ≡ found f) ⊎ (b ≡ found f)
or_found nothing b f e = inr e
or_found (found g) b f e = inl e

data Part (t : ℕ) (s : State) (j : ℕ) (l : Option ℕ) (b c : Bool) (o : Option ℕ) (f : Fault) : Type 0 where
  is_late : (i : ℕ) → l ≡ some i → fault_with t s (late i) ≡ f → Part t s j l b c o f
  is_early : T b → fault_with t s (early j) ≡ f → Part t s j l b c o f
  is_before : (p : ℕ) → T c → o ≡ some p → fault_with t s (before j p) ≡ f → Part t s j l b c o f

parts : (t : ℕ) (s : State) (j : ℕ) (l : Option ℕ) (b c : Bool) (o : Option ℕ) (f : Fault)
    → or_else (late_if t s l) (or_else (early_if t s j b) (before_if t s j c o)) ≡ found f → Part t s j l b c o f
parts t s j (some i) b c o f e = is_late i refl cc
parts t s j none true c o f e = is_early tt cc
parts t s j none false true (some p) f e = is_before p tt refl cc
parts t s j none false true none f e = let z : ◌≡◌ {A = ℕ} 0 1 = cc in absurd (omega arith)
parts t s j none false false o f e = let z : ◌≡◌ {A = ℕ} 0 1 = cc in absurd (omega arith)

record Clear (l : Option ℕ) (b c : Bool) (o : Option ℕ) : Type 0 where
  no_late : l ≡ none
  no_early : ¬ T b
  no_before : T c → o ≡ none

clear : (t : ℕ) (s : State) (j : ℕ) (l : Option ℕ) (b c : Bool) (o : Option ℕ)
    → or_else (late_if t s l) (or_else (early_if t s j b) (before_if t s j c o)) ≡ nothing → Clear l b c o
clear t s j (some i) b c o e = let z : ◌≡◌ {A = ℕ} 0 1 = cc in absurd (omega arith)
clear t s j none true c o e = let z : ◌≡◌ {A = ℕ} 0 1 = cc in absurd (omega arith)
clear t s j none false true (some p) e = let z : ◌≡◌ {A = ℕ} 0 1 = cc in absurd (omega arith)
clear t s j none false true none e = record { no_late = refl; no_early = λ x. x; no_before = λ x. refl }
clear t s j none false false o e = record { no_late = refl; no_early = λ x. x; no_before = λ x. absurd x }

module _ (F : Frame) (e : ℕ → ℕ) where
  pub waits_some : (u : List ℕ) (j p : ℕ) → waits_for F e u j ≡ some p → (p < F.n) × T (F.edge p j) × (units_of u p < e p)
  unfolding waits_for
  waits_some u j p x =
      let r = find_some (λ (k : ℕ). F.edge k j && ltb (units_of u k) (e k)) F.n 0 p x in
      let q = r.0 in
      (omega arith, search (and_l), search (and_r, ltb→lt))

  pub waits_none : (u : List ℕ) (j p : ℕ) → waits_for F e u j ≡ none → p < F.n → T (F.edge p j) → units_of u p < e p → ⊥
  unfolding waits_for
  waits_none u j p x a b c =
      find_none (λ (k : ℕ). F.edge k j && ltb (units_of u k) (e k)) F.n 0 x p (omega arith) (omega arith) (search (and_i, lt→ltb))

  pub late_job_some : (t q : ℕ) (u : List ℕ) (j : ℕ) → late_job F e t q u ≡ some j → (j < F.n) × (F.deadline j ≡ t) × (q ≤ F.level j) × (units_of u j < e j)
  unfolding late_job
  late_job_some t q u j x =
      let r = find_some (λ (i : ℕ). eqb (F.deadline i) t && (leb q (F.level i) && ltb (units_of u i) (e i))) F.n 0 j x in
      let y = r.0 in
      (omega arith, search (and_l, eqb→eq), search (and_l, and_r, leb→le), search (and_r, ltb→lt))

  pub late_job_none : (t q : ℕ) (u : List ℕ) (j : ℕ) → late_job F e t q u ≡ none → j < F.n → F.deadline j ≡ t → q ≤ F.level j → units_of u j < e j → ⊥
  unfolding late_job
  late_job_none t q u j x a b c d =
      find_none (λ (i : ℕ). eqb (F.deadline i) t && (leb q (F.level i) && ltb (units_of u i) (e i))) F.n 0 x j (omega arith) (omega arith) (search (and_i, eq→eqb, le→leb))

  pub owed_e : (m : ℕ) (u : List ℕ) (j : ℕ) → T (owed F e m u j) → (j < F.n) × (m ≤ F.level j) × (units_of u j < e j)
  unfolding owed
  owed_e m u j t = (search (and_l, ltb→lt), search (and_l, and_r, leb→le), search (and_r, ltb→lt))

  pub owed_i : (m : ℕ) (u : List ℕ) (j : ℕ) → j < F.n → m ≤ F.level j → units_of u j < e j → T (owed F e m u j)
  unfolding owed
  owed_i m u j a b c = search (and_i, le→leb)

  pub fault_at_found : (t : ℕ) (s : State) (f : Fault) → fault_at F e t s ≡ found f → (w : Badness) × (fault_with t s w ≡ f) × Bad F e t s w
  unfolding fault_at fault_of Bad
  fault_at_found t s f x =
      go (parts t s (F.table s.mode t) (late_job F e t s.mode_before s.had) (owed F e s.mode s.had (F.table s.mode t) && ltb t (F.arrival (F.table s.mode t)))
      (owed F e s.mode s.had (F.table s.mode t)) (waits_for F e s.had (F.table s.mode t)) f x)
    where
      go : Part t s (F.table s.mode t) (late_job F e t s.mode_before s.had) (owed F e s.mode s.had (F.table s.mode t) && ltb t (F.arrival (F.table s.mode t)))
          (owed F e s.mode s.had (F.table s.mode t)) (waits_for F e s.had (F.table s.mode t)) f → (w : Badness) × (fault_with t s w ≡ f) × Bad F e t s w
      go (is_late i y z) = (late i, z, late_job_some t s.mode_before s.had i y)
      go (is_early y z) =
          let j = F.table s.mode t in
          let o = owed_e s.mode s.had j (and_l (owed F e s.mode s.had j) (ltb t (F.arrival j)) y) in
          (early j, z, (o.0, refl, o.1, o.2, ltb→lt t (F.arrival j) (and_r (owed F e s.mode s.had j) (ltb t (F.arrival j)) y)))
      go (is_before p y q z) =
          let j = F.table s.mode t in
          let o = owed_e s.mode s.had j y in
          let r = waits_some s.had j p q in
          (before j p, z, (o.0, refl, o.1, o.2, r.0, r.1, r.2))

  -- nothing is wrong where nothing is found
  fault_at_clear : (t : ℕ) (s : State) (j : ℕ) → F.table s.mode t ≡ j → fault_at F e t s ≡ nothing
      → Clear (late_job F e t s.mode_before s.had) (owed F e s.mode s.had j && ltb t (F.arrival j)) (owed F e s.mode s.had j) (waits_for F e s.had j)
  unfolding fault_at fault_of
  fault_at_clear t s j p x = clear t s j _ _ _ _ (subst (λ (k : ℕ). fault_of F e t s k ≡ nothing) p x)

  pub fault_at_nothing : (t : ℕ) (s : State) → fault_at F e t s ≡ nothing → (w : Badness) → Bad F e t s w → ⊥
  unfolding Bad
  fault_at_nothing t s x (late j) w =
      late_job_none t s.mode_before s.had j (fault_at_clear t s _ refl x).no_late w.0 w.1 w.2 w.3
  fault_at_nothing t s x (early j) w =
      (fault_at_clear t s j w.1 x).no_early (and_i (owed F e s.mode s.had j) (ltb t (F.arrival j)) (owed_i s.mode s.had j w.0 w.2 w.3) (lt→ltb t (F.arrival j) w.4))
  fault_at_nothing t s x (before j p) w =
      waits_none s.had j p ((fault_at_clear t s j w.1 x).no_before (owed_i s.mode s.had j w.0 w.2 w.3)) w.4 w.5 w.6
