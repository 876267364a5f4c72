-- For two levels the general step and badness are document 01's own.
-- Assumes nothing.
-- LO where no slot switched, and HI after the one that did
use mathlib.Core.Bool.{Bool, ◌&&◌, ◌||◌, and-true, cond, false, true}
use mathlib.Core.List.{List, [], ◌∷◌}
use mathlib.Core.Logic.{◌↔◌, ◌⊎◌, inl, inr}
use mathlib.Core.Path.{◌∙◌, ◌≡◌, ap, refl, subst, sym}
use Prim.Native.Nat.{◌<◌, ◌≤◌, suc, zero, ℕ}
use native.Mathlib.Omega.{arith}
use borrow.Author.Tests.{eq-eqb, le-leb, leb-false, leb-true, ltb-true, ne_eqb}
use lib.Dec.{T, leb, leb→le, le→leb, ltb, ltb→lt, lt→ltb}
use Rattle.basics.proofs.Tests.{and_i, and_l, and_r, eq→eqb, lie, truth}
use Rattle.basics.specs.Units.{one_more, units_of}
use Rattle.frame.proofs.Step.{Slot, goes, next_has, next_mode_lem, outran_i, runs_job, slot_cases, stays}
use Rattle.frame.specs.Execution.{Bad, BadAt, Badness, State, Valid, before, early, late, opening, ready, runs, state, step}
use Rattle.frame.specs.Jobs.{Frame, WellFormed}
use Rattle.frame.specs.TwoLevels.{BadIn, CLO, HI, LO, Mode, Standing, is_high, mode_after, named, runs_in, slot_in, standing}

abbrev pub mode_of : List ℕ → Mode
mode_of [] = LO
mode_of (x ∷ c) = HI x

abbrev pub view_of : State → Standing
view_of s = record { mode = mode_of s.chain; had = s.had }

-- at the opening of slot t: in LO, or in HI from the slot after x
pub data Two (t : ℕ) (s : State) : Type 0 where
  in_lo : s.mode ≡ 0 → s.mode_before ≡ 0 → s.chain ≡ [] → Two t s
  in_hi : (x : ℕ) → s.mode ≡ 1 → s.chain ≡ x ∷ [] → ((s.mode_before ≡ 0) × (t ≡ suc x)) ⊎ ((s.mode_before ≡ 1) × (suc x < t)) → Two t s

module _ (F : Frame) (W : WellFormed F) (two : F.K ≡ 2) where
  high_level : (j : ℕ) → j < F.n → 1 ≤ F.level j → F.level j ≡ 1
  high_level j a b = omega (arith, W.level_below j a)

  module _ (e : ℕ → ℕ) (ok : Valid F e) where
    mode_below : (t : ℕ) (s : State) → Two t s → s.mode < F.K
    mode_below t s (in_lo a b c) = omega arith
    mode_below t s (in_hi x a b c) = omega arith

    pub two_step : (t : ℕ) (s : State) → Two t s → Two (suc t) (step F e t s)
    two_step t s d = go d (slot_cases F W e ok t s.mode s.mode_before s.chain s.had (F.table s.mode t) (mode_below t s d) refl)
      where
        go : Two t s → Slot F W e t s.mode s.mode_before s.chain s.had (F.table s.mode t) → Two (suc t) (step F e t s)
        go (in_lo a b c) (stays z p nov eq) = subst (Two (suc t)) (sym eq) (in_lo a a c)
        go (in_hi x a b (inl c)) (stays z p nov eq) = subst (Two (suc t)) (sym eq) (in_hi x a b (inr (a, omega arith)))
        go (in_hi x a b (inr c)) (stays z p nov eq) = subst (Two (suc t)) (sym eq) (in_hi x a b (inr (a, omega arith)))
        go (in_lo a b c) (goes r l v m' nx eq) =
            let n = next_mode_lem F W (F.table s.mode t) s.mode m' (runs_job F W e t s.mode s.had (F.table s.mode t) r) (mode_below t s d) nx in
            subst (Two (suc t)) (sym eq) (in_hi t (omega arith) (ap (λ (h : List ℕ). t ∷ h) c) (inl (a, refl)))
        go (in_hi x a b c) (goes r l v m' nx eq) =
            let n = next_mode_lem F W (F.table s.mode t) s.mode m' (runs_job F W e t s.mode s.had (F.table s.mode t) r) (mode_below t s d) nx in
            absurd (omega arith)

    pub two_modes : (t : ℕ) → Two t (opening F e t)
    unfolding opening
    two_modes zero = in_lo refl refl refl
    two_modes (suc t) = two_step t (opening F e t) (two_modes t)

    -- the named job runs as document 01 says
    pub runs_lo_lem : (t : ℕ) (u : List ℕ) (j : ℕ) → runs F e t 0 u j ≡ runs_in F e LO t u j
    unfolding runs runs_in
    runs_lo_lem t u j = rw (le-leb 0 (F.level j) (omega arith)) (ap (λ (b : Bool). ltb j F.n && b) (and-true (ltb (units_of u j) (e j))))

    pub runs_hi : (x t : ℕ) (u : List ℕ) (j : ℕ) → runs F e t 1 u j ≡ runs_in F e (HI x) t u j
    unfolding runs runs_in
    runs_hi x t u j = go (ltb j F.n) refl
      where
        go : (b : Bool) → ltb j F.n ≡ b
            → (b && (ltb (units_of u j) (e j) && (leb 1 (F.level j) || ready F e t u j))) ≡ (b && (ltb (units_of u j) (e j) && (is_high F j || ready F e t u j)))
        go false p = refl
        go true p = ap (λ (b : Bool). ltb (units_of u j) (e j) && (b || ready F e t u j)) (level (leb 1 (F.level j)) refl)
          where
            level : (b : Bool) → leb 1 (F.level j) ≡ b → b ≡ is_high F j
            level true q = sym (eq-eqb _ _ (high_level j (ltb-true j F.n p) (leb-true 1 (F.level j) q)))
            level false q = sym (ne_eqb _ _ (λ (z : F.level j ≡ 1). let l = leb-false 1 (F.level j) q in omega arith))

    -- a slot in LO, and one in HI, make what document 01 says
    lo_slot : (t q : ℕ) (u : List ℕ) → view_of (step F e t (state 0 q [] u)) ≡ slot_in F e t (record { mode = LO; had = u }) (F.table 0 t) (runs_in F e LO t u (F.table 0 t))
    unfolding slot_in mode_after
    lo_slot t q u = go (slot_cases F W e ok t 0 q [] u j W.modes refl)
      where
        j : ℕ
        j = F.table 0 t

        test : Bool → Bool
        test b = b && (is_high F j && (leb (CLO F j) (suc (units_of u j)) && ltb (suc (units_of u j)) (e j)))

        same : (b x : Bool) → runs F e t 0 u j ≡ b → test b ≡ x → ◌≡◌ {A = Standing} (record { mode = cond x (HI t) LO; had = one_more b j u }) (slot_in F e t (record { mode = LO; had = u }) j (runs_in F e LO t u j))
        same b x p q = λ i. record { mode = cond (test' i) (HI t) LO; had = one_more (ran i) j u }
          where
            ran : b ≡ runs_in F e LO t u j
            ran = sym p ∙ runs_lo_lem t u j

            test' : x ≡ test (runs_in F e LO t u j)
            test' = sym q ∙ ap test ran

        go : Slot F W e t 0 q [] u j → view_of (step F e t (state 0 q [] u)) ≡ slot_in F e t (record { mode = LO; had = u }) j (runs_in F e LO t u j)
        go (stays b p nov eq) = ap view_of eq ∙ same b false p (lie (test b) over)
          where
            over : ¬ T (test b)
            over z =
                let h = suc (units_of u j) in
                let x = leb (CLO F j) h && ltb h (e j) in
                let y = and_r (is_high F j) x (and_r b (is_high F j && x) z) in
                nov (and_l b (is_high F j && x) z, outran_i F W e 0 h j (ltb→lt h (e j) (and_r (leb (CLO F j) h) (ltb h (e j)) y)) (leb→le (CLO F j) h (and_l (leb (CLO F j) h) (ltb h (e j)) y)))
        go (goes r l v m' nx eq) =
            let jn = runs_job F W e t 0 u j r in
            let up = (next_has F W e ok j 0 (suc (units_of u j)) jn W.modes l v).0 in
            let h = suc (units_of u j) in
            let x = and_i (leb (CLO F j) h) (ltb h (e j)) (le→leb (CLO F j) h v) (lt→ltb h (e j) l) in
            ap view_of eq ∙ same true true (truth (runs F e t 0 u j) r) (truth (test true) (and_i (is_high F j) (leb (CLO F j) h && ltb h (e j)) (eq→eqb (F.level j) 1 (high_level j jn (omega arith))) x))

    hi_slot : (t q x : ℕ) (u : List ℕ) → view_of (step F e t (state 1 q (x ∷ []) u)) ≡ slot_in F e t (record { mode = HI x; had = u }) (F.table 1 t) (runs_in F e (HI x) t u (F.table 1 t))
    unfolding slot_in mode_after
    hi_slot t q x u = go (slot_cases F W e ok t 1 q (x ∷ []) u (F.table 1 t) (omega arith) refl)
      where
        go : Slot F W e t 1 q (x ∷ []) u (F.table 1 t) → view_of (step F e t (state 1 q (x ∷ []) u)) ≡ slot_in F e t (record { mode = HI x; had = u }) (F.table 1 t) (runs_in F e (HI x) t u (F.table 1 t))
        go (stays b p nov eq) = ap view_of eq ∙ (λ i. record { mode = HI x; had = one_more ((sym p ∙ runs_hi x t u (F.table 1 t)) i) (F.table 1 t) u })
        go (goes r l v m' nx eq) =
            let n = next_mode_lem F W (F.table 1 t) 1 m' (runs_job F W e t 1 u (F.table 1 t) r) (omega arith) nx in
            absurd (omega arith)

    -- every slot of an execution is document 01's
    pub two_opening : (t : ℕ) → view_of (opening F e t) ≡ standing F e t
    unfolding opening standing
    two_opening zero = refl
    two_opening (suc t) = by (two_modes t) ∙ ap next (two_opening t)
      where
        s : State
        s = opening F e t

        next : Standing → Standing
        next v = slot_in F e t v (named F v.mode t) (runs_in F e v.mode t v.had (named F v.mode t))

        by : Two t s → view_of (step F e t s) ≡ next (view_of s)
        by (in_lo a b c) =
            subst (λ (x : State). view_of (step F e t x) ≡ next (view_of x)) (λ i. state (sym a i) s.mode_before (sym c i) s.had) (lo_slot t s.mode_before s.had)
        by (in_hi x a b c) =
            subst (λ (x : State). view_of (step F e t x) ≡ next (view_of x)) (λ i. state (sym a i) s.mode_before (sym b i) s.had) (hi_slot t s.mode_before x s.had)

    -- what is bad at a slot is what document 01 says
    bad_lo : (t : ℕ) (u : List ℕ) (w : Badness) → Bad F e t (state 0 0 [] u) w ↔ BadIn F e t (record { mode = LO; had = u }) w
    unfolding Bad BadIn
    bad_lo t u (late j) = ((λ x. (x.0, x.1, tt, x.3)), (λ x. (x.0, x.1, omega arith, x.3)))
    bad_lo t u (early j) = ((λ x. (x.0, x.1, tt, x.3, x.4)), (λ x. (x.0, x.1, omega arith, x.3, x.4)))
    bad_lo t u (before j p) = ((λ x. (x.0, x.1, tt, x.3, x.4, x.5, x.6)), (λ x. (x.0, x.1, omega arith, x.3, x.4, x.5, x.6)))

    bad_hi : (t q x : ℕ) (u : List ℕ) → ((q ≡ 0) × (t ≡ suc x)) ⊎ ((q ≡ 1) × (suc x < t)) → (w : Badness)
        → Bad F e t (state 1 q (x ∷ []) u) w ↔ BadIn F e t (record { mode = HI x; had = u }) w
    unfolding Bad BadIn
    bad_hi t q x u (inl c) (late j) = ((λ z. (z.0, z.1, inr (let d = z.1 in omega arith), z.3)), (λ z. (z.0, z.1, omega arith, z.3)))
    bad_hi t q x u (inr c) (late j) =
        ((λ z. (z.0, z.1, inl (high_level j z.0 (let l = z.2 in omega arith)), z.3)), (λ z. (z.0, z.1, counted z.1 z.2, z.3)))
      where
        counted : F.deadline j ≡ t → (F.level j ≡ 1) ⊎ (F.deadline j ≤ suc x) → q ≤ F.level j
        counted d (inl l) = omega arith
        counted d (inr l) = absurd (omega arith)
    bad_hi t q x u c (early j) = ((λ z. (z.0, z.1, high_level j z.0 z.2, z.3, z.4)), (λ z. (z.0, z.1, (let l = z.2 in omega arith), z.3, z.4)))
    bad_hi t q x u c (before j p) =
        ((λ z. (z.0, z.1, high_level j z.0 z.2, z.3, z.4, z.5, z.6)), (λ z. (z.0, z.1, (let l = z.2 in omega arith), z.3, z.4, z.5, z.6)))

    pub two_bad : (t : ℕ) (w : Badness) → BadAt F e t w ↔ BadIn F e t (standing F e t) w
    two_bad t w = subst (λ (v : Standing). Bad F e t s w ↔ BadIn F e t v w) (two_opening t) (by (two_modes t))
      where
        s : State
        s = opening F e t

        by : Two t s → Bad F e t s w ↔ BadIn F e t (view_of s) w
        by (in_lo a b c) = subst (λ (x : State). Bad F e t x w ↔ BadIn F e t (view_of x) w) (λ i. state (sym a i) (sym b i) (sym c i) s.had) (bad_lo t s.had w)
        by (in_hi x a b c) = subst (λ (x : State). Bad F e t x w ↔ BadIn F e t (view_of x) w) (λ i. state (sym a i) s.mode_before (sym b i) s.had) (bad_hi t s.mode_before x s.had c w)
