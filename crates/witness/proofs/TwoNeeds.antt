-- For two levels: the needs with which the search found its fault, by counting entries of table LO.
-- Assumes nothing.
use mathlib.Core.Bool.{true}
use mathlib.Core.List.{List, [], ◌∷◌}
use mathlib.Core.Logic.{◌⊎◌, inl, inr}
use mathlib.Core.Path.{◌∙◌, ◌≡◌, ap, refl, sym}
use Prim.Native.Nat.{◌<◌, ◌≤◌, min, suc, ℕ}
use native.Mathlib.Decide.{ℕ_discrete}
use native.Mathlib.Omega.{arith}
use Rattle.basics.proofs.Below.{entries_else}
use Rattle.basics.proofs.Units.{more_other}
use Rattle.basics.specs.Below.{entries_before}
use Rattle.basics.specs.Units.{one_more, units_of}
use Rattle.frame.proofs.Beside.{Need, need, open!, shut! }
use Rattle.frame.proofs.Sound.{Behind, at_first, switched_at}
use Rattle.frame.proofs.TwoLevels.{Two, in_hi, in_lo, two_modes}
use Rattle.frame.proofs.UnitsTwo.{lo_units_lem}
use Rattle.frame.specs.Demand.{Real}
use Rattle.frame.specs.Execution.{State, Valid, opening}
use Rattle.frame.specs.Jobs.{Frame, WellFormed}
use Rattle.frame.specs.Search.{Fault, needs_after}
use Rattle.frame.specs.TwoLevels.{CHI, CLO}

module _ (F : Frame) (W : WellFormed F) (two : F.K ≡ 2) where
  -- what job i needs behind a switch at x
  pub data NeedAt (x i v : ℕ) : Type 0 where
    own : i ≡ F.table 0 x → v ≡ CHI F i → NeedAt x i v
    had : ¬ (i ≡ F.table 0 x) → CLO F i ≤ entries_before (F.table 0) i (suc x) → v ≡ CLO F i → NeedAt x i v
    more : ¬ (i ≡ F.table 0 x) → entries_before (F.table 0) i (suc x) < CLO F i → v ≡ CHI F i → NeedAt x i v

  -- the needs of a demand: CLO with no switch, or behind one
  pub data Needs (f : Fault) (c : ℕ → ℕ) : Type 0 where
    ordinary : f.chain ≡ [] → ((i : ℕ) → c i ≡ CLO F i) → Needs f c
    behind : (x : ℕ) → f.chain ≡ x ∷ [] → x < F.L → ((i : ℕ) → i < F.n → NeedAt x i (c i)) → Needs f c

  clo_valid : Valid F (CLO F)
  clo_valid i a = (W.budget_one i a, W.budget_up i 0 (F.level i) a (omega arith) (W.level_below i a))

  first_needs : (h : List ℕ) (c : ℕ → ℕ) → Behind F h c → h ≡ [] → (i : ℕ) → c i ≡ CLO F i
  first_needs h c at_first e i = refl
  first_needs h c (switched_at t m q m' u b y l k) e i = cc

  -- at the switch
  module _ (x : ℕ) (u : List ℕ) (c : ℕ → ℕ) (clo : (i : ℕ) → c i ≡ CLO F i) (units : (i : ℕ) → i < F.n → units_of u i ≡ min (CLO F i) (entries_before (F.table 0) i x)) where
    need_at : (i : ℕ) → i < F.n → NeedAt x i (needs_after F c (one_more true (F.table 0 x) u) (F.table 0 x) 1 i)
    need_at i a = go (need F c (one_more true (F.table 0 x) u) (F.table 0 x) 1 i) (ℕ_discrete i (F.table 0 x))
      where
        go : Need F c (one_more true (F.table 0 x) u) (F.table 0 x) 1 i → Dec (i ≡ F.table 0 x) → NeedAt x i (needs_after F c (one_more true (F.table 0 x) u) (F.table 0 x) 1 i)
        go (open! z n) (yes p) = own p n
        go (open! (inl z) n) (no p) = absurd (p z)
        go (open! (inr z) n) (no p) =
            more p (omega (arith, z, clo i, units i a, more_other true (F.table 0 x) u i p, entries_else (F.table 0) i x (λ e. p (sym e)))) n
        go (shut! z w n) d =
            had z (omega (arith, w, clo i, units i a, more_other true (F.table 0 x) u i z, entries_else (F.table 0) i x (λ e. z (sym e)))) (n ∙ clo i)

  one_needs : (h : List ℕ) (c : ℕ → ℕ) → Behind F h c → (x : ℕ) → h ≡ x ∷ [] → (i : ℕ) → i < F.n → NeedAt x i (c i)
  one_needs h c at_first x e i a = cc
  one_needs h c (switched_at {h = h'} {c = c'} t m q m' u b y l k) x e i a =
      let et : t ≡ x = cc in
      let em : m ≡ 0 = omega arith in
      let em' : m' ≡ 1 = omega arith in
      rw (et, em, em') (need_at x u c' clo (units et) i a)
    where
      nil : h' ≡ []
      nil = cc

      clo : (i : ℕ) → c' i ≡ CLO F i
      clo = first_needs h' c' b nil

      ok : Valid F c'
      ok i a = let v = clo_valid i a in (omega (arith, v, clo i), omega (arith, v, clo i))

      units : t ≡ x → (i : ℕ) → i < F.n → units_of u i ≡ min (CLO F i) (entries_before (F.table 0) i x)
      units et i a =
          let r = lo_units_lem F W c' ok t i (ap (λ (s : State). s.chain) y ∙ nil) a in
          let g : units_of (opening F c' t).had i ≡ units_of u i = ap (λ (s : State). units_of s.had i) y in
          let d : entries_before (F.table 0) i t ≡ entries_before (F.table 0) i x = ap (entries_before (F.table 0) i) et in
          omega (arith, r, g, d, clo i)

  pub needs_of : (f : Fault) (r : Real F f) → Behind F f.chain r.demand → Needs f r.demand
  needs_of f r b = go (two_modes F W two r.demand r.valid f.slot)
    where
      go : Two f.slot (opening F r.demand f.slot) → Needs f r.demand
      go (in_lo p q n) =
          let e : f.chain ≡ [] = sym r.switched ∙ n in
          ordinary e (first_needs f.chain r.demand b e)
      go (in_hi x p n d) =
          let e : f.chain ≡ x ∷ [] = sym r.switched ∙ n in
          behind x e (within d) (one_needs f.chain r.demand b x e)
        where
          within : (((opening F r.demand f.slot).mode_before ≡ 0) × (f.slot ≡ suc x)) ⊎ (((opening F r.demand f.slot).mode_before ≡ 1) × (suc x < f.slot)) → x < F.L
          within (inl g) = omega (arith, g.1, r.in_frame)
          within (inr g) = omega (arith, g.1, r.in_frame)
