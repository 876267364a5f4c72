-- The loop over switches: the units in LO by counting entries, and one slot after the other.
-- Assumes nothing.
use mathlib.Core.Bool.{Bool, ◌&&◌, cond, false, not, true}
use mathlib.Core.List.{List, [], ◌∷◌}
use mathlib.Core.Path.{◌∙◌, ◌≡◌, ap, ap₂, refl, subst, sym}
use Prim.Native.Nat.{◌+◌, ◌-◌, ◌<◌, ◌≤◌, min, suc, zero, ℕ}
use native.Mathlib.Decide.{ℕ_discrete}
use native.Mathlib.Omega.{arith}
use borrow.Author.Tests.{eq-eqb, eqb-false, eqb-true, lt-ltb, ltb-false, ltb-true, ne_eqb}
use lib.Dec.{eqb, leb, ltb}
use lib.ListN.{get_or-replicate, length, length-replicate, replicate}
use Rattle.basics.proofs.Below.{entries_else, entries_here, entries_zero}
use Rattle.basics.proofs.Tests.{and_left, and_right, of_true}
use Rattle.basics.proofs.Units.{more_length, more_off, more_on, more_other}
use Rattle.basics.specs.Below.{entries_before}
use Rattle.basics.specs.Marks.{no_switch}
use Rattle.basics.specs.Units.{one_more, units_of}
use Rattle.frame.specs.Execution.{state}
use Rattle.frame.specs.Jobs.{Frame}
use Rattle.frame.specs.Search.{Finding, nothing, or_else, scan}
use Rattle.frame.specs.TwoLevels.{each_switch, needs_hi, switches_here}
use Rattle.joblist.specs.Fields.{high, level, ordinary}
use Rattle.verdict.proofs.Same.{like, scan_same}
use Rattle.verdict.proofs.Told.{chain_at}
use Rattle.verdict.specs.Count.{entries_in, entry_at}
use Rattle.verdict.specs.FrameOf.{frame_with}
use Rattle.verdict.specs.Inner.{chain_of, square, switches_at}

-- a count is of all slots before t, where the table is as long
pub entries_all : (lo : List ℕ) (j t : ℕ) → t ≤ length lo → entries_in lo j t ≡ entries_before (entry_at lo) j t
unfolding entries_in
entries_all lo j t h = ap (entries_before (entry_at lo) j) (let e : min t (length lo) ≡ t = omega arith in e)

module _ (s : List ℕ) (n l : ℕ) (lo hi : List ℕ) (edge : ℕ → ℕ → Bool) where
  abbrev F : Frame
  F = frame_with s n l lo hi edge

  -- whether the job that table LO names in slot t runs, where each uses CLO
  abbrev runs_lo : ℕ → List ℕ → Bool
  runs_lo t u = ltb (entry_at lo t) n && ltb (units_of u (entry_at lo t)) (ordinary s (entry_at lo t))

  -- the units at the opening of slot t, in LO with every job using CLO
  unfoldable pub lo_units : ℕ → List ℕ
  lo_units zero = replicate n 0
  lo_units (suc t) = one_more (runs_lo t (lo_units t)) (entry_at lo t) (lo_units t)

  lo_length : (t : ℕ) → length (lo_units t) ≡ n
  unfolding lo_units
  lo_length zero = length-replicate {A = ℕ} n 0
  lo_length (suc t) = more_length (runs_lo t (lo_units t)) (entry_at lo t) (lo_units t) ∙ lo_length t

  -- of each job its entries so far, and no more than CLO
  pub lo_count : (t i : ℕ) → i < n → units_of (lo_units t) i ≡ min (ordinary s i) (entries_before (entry_at lo) i t)
  unfolding lo_units
  lo_count zero i a = omega (arith, get_or-replicate {A = ℕ} n i 0 0 a, entries_zero (entry_at lo) i)
  lo_count (suc t) i a = go (eqb i (entry_at lo t)) refl (runs_lo t u) refl (lo_count t i a)
    where
      u : List ℕ
      u = lo_units t

      go : (x : Bool) → eqb i (entry_at lo t) ≡ x → (r : Bool) → runs_lo t u ≡ r → units_of u i ≡ min (ordinary s i) (entries_before (entry_at lo) i t)
          → units_of (one_more (runs_lo t u) (entry_at lo t) u) i ≡ min (ordinary s i) (entries_before (entry_at lo) i (suc t))
      go false p r q h =
          let o : ¬ (i ≡ entry_at lo t) = eqb-false _ _ p in
          more_other (runs_lo t u) (entry_at lo t) u i o ∙ h ∙ ap (min (ordinary s i)) (sym (entries_else (entry_at lo) i t (λ z. o (sym z))))
      go true p true q h =
          let y : entry_at lo t ≡ i = sym (eqb-true _ _ p) in
          let m : units_of (one_more (runs_lo t u) (entry_at lo t) u) i ≡ suc (units_of u i) = subst (λ (k : ℕ). units_of (one_more (runs_lo t u) (entry_at lo t) u) k ≡ suc (units_of u k)) y (more_on (runs_lo t u) (entry_at lo t) u (subst (λ (k : ℕ). k < length u) (sym y) (omega (arith, lo_length t))) (of_true q)) in
          let d : units_of u i < ordinary s i = subst (λ (k : ℕ). units_of u k < ordinary s k) y (ltb-true _ _ (and_right (ltb (entry_at lo t) n) _ q)) in
          omega (arith, m, d, h, entries_here (entry_at lo) i t y)
      go true p false q h =
          let y : entry_at lo t ≡ i = sym (eqb-true _ _ p) in
          let m : units_of (one_more (runs_lo t u) (entry_at lo t) u) i ≡ units_of u i = rw (q, more_off (entry_at lo t) u) in
          let f : ltb (units_of u i) (ordinary s i) ≡ false = sym (ap (λ (x : Bool). x && ltb (units_of u i) (ordinary s i)) (lt-ltb i n a)) ∙ subst (λ (k : ℕ). (ltb k n && ltb (units_of u k) (ordinary s k)) ≡ false) y q in
          omega (arith, m, h, ltb-false (units_of u i) (ordinary s i) f, entries_here (entry_at lo) i t y)

  -- the switch test, by counting
  here_count : (t : ℕ) → t ≤ length lo → switches_here F (lo_units t) (entry_at lo t) ≡ switches_at s n lo t (entry_at lo t)
  unfolding switches_here
  here_count t h = job (ltb j n) refl
    where
      j : ℕ
      j = entry_at lo t

      -- the CLO-th unit is the CLO-th entry
      clo_th : j < n → eqb (suc (units_of (lo_units t) j)) (ordinary s j) ≡ eqb (entries_in lo j t + 1) (ordinary s j)
      clo_th a = rw (lo_count t j a, entries_all lo j t h) (go (ℕ_discrete (entries_before (entry_at lo) j t + 1) (ordinary s j)))
        where
          go : Dec (entries_before (entry_at lo) j t + 1 ≡ ordinary s j)
              → eqb (suc (min (ordinary s j) (entries_before (entry_at lo) j t))) (ordinary s j) ≡ eqb (entries_before (entry_at lo) j t + 1) (ordinary s j)
          go (yes p) = eq-eqb _ _ (let e : suc (min (ordinary s j) (entries_before (entry_at lo) j t)) ≡ ordinary s j = omega arith in e) ∙ sym (eq-eqb _ _ p)
          go (no p) = ne_eqb _ _ (λ z. p (let z' : suc (min (ordinary s j) (entries_before (entry_at lo) j t)) ≡ ordinary s j = z in omega arith)) ∙ sym (ne_eqb _ _ p)

      job : (b : Bool) → ltb j n ≡ b
          → (b && (eqb (level s j) 1 && (ltb (ordinary s j) (high s j) && eqb (suc (units_of (lo_units t) j)) (ordinary s j))))
          ≡ (b && (eqb (level s j) 1 && (ltb (ordinary s j) (high s j) && eqb (entries_in lo j t + 1) (ordinary s j))))
      job true p = ap (λ (x : Bool). eqb (level s j) 1 && (ltb (ordinary s j) (high s j) && x)) (clo_th (ltb-true _ _ p))
      job false p = refl

  -- the loop's start, its turn and its end
  pub each_start : each_switch F l 0 (replicate n 0) ≡ each_switch F (l - 0) 0 (lo_units 0)
  unfolding lo_units
  each_start = ap (λ (k : ℕ). each_switch F k 0 (replicate n 0)) (let e : l ≡ l - 0 = omega arith in e)

  pub each_end : (t : ℕ) → l ≤ t → each_switch F (l - t) t (lo_units t) ≡ nothing
  unfolding each_switch
  each_end t h = ap (λ (k : ℕ). each_switch F k t (lo_units t)) (let e : l - t ≡ 0 = omega arith in e)

  module _ (t : ℕ) (h : t < l) (long : l ≤ length lo) where
    abbrev behind : Finding
    behind =
        scan F (needs_hi F (one_more true (entry_at lo t) (lo_units t)) (entry_at lo t)) (l - (t + 1)) (suc t) (state 1 0 (t ∷ []) (one_more true (entry_at lo t) (lo_units t)))

    each_turn : each_switch F (l - t) t (lo_units t) ≡ or_else (cond (switches_at s n lo t (entry_at lo t)) behind nothing) (each_switch F (l - (t + 1)) (t + 1) (lo_units (t + 1)))
    unfolding each_switch lo_units
    each_turn =
        ap (λ (k : ℕ). each_switch F k t (lo_units t)) (let e : l - t ≡ suc (l - (t + 1)) = omega arith in e)
        ∙ ap₂ (λ (b : Bool) (y : ℕ). or_else (cond b behind nothing) (each_switch F (l - (t + 1)) y (lo_units y))) (here_count t (omega arith)) (let e : suc t ≡ t + 1 = omega arith in e)

    -- the job that switches runs in slot t
    runs_here : switches_at s n lo t (entry_at lo t) ≡ true → one_more true (entry_at lo t) (lo_units t) ≡ lo_units (t + 1)
    unfolding lo_units
    runs_here p =
        let a : entry_at lo t < n = ltb-true _ _ (and_left (ltb (entry_at lo t) n) _ p) in
        let q = and_right (ltb (entry_at lo t) n) _ p in
        let r = and_right (eqb (level s (entry_at lo t)) 1) _ q in
        let c = eqb-true (entries_in lo (entry_at lo t) t + 1) (ordinary s (entry_at lo t)) (and_right (ltb (ordinary s (entry_at lo t)) (high s (entry_at lo t))) _ r) in
        let d : units_of (lo_units t) (entry_at lo t) < ordinary s (entry_at lo t) = omega (arith, lo_count t (entry_at lo t) a, entries_all lo (entry_at lo t) t (omega arith), c) in
        sym (ap lo_units (let e : t + 1 ≡ suc t = omega arith in e) ∙ rw (lt-ltb _ _ a, lt-ltb _ _ d))

    -- as the code reads it: the entry j, and at a switch the units and the needs in arrays
    module _ (j : ℕ) (at : j ≡ entry_at lo t) where
      abbrev on : Finding
      on = each_switch F (l - (t + 1)) (t + 1) (lo_units (t + 1))

      pub each_no : switches_at s n lo t j ≡ false → each_switch F (l - t) t (lo_units t) ≡ on
      each_no p = each_turn ∙ ap (λ (b : Bool). or_else (cond b behind nothing) on) (ap (switches_at s n lo t) (sym at) ∙ p)

      pub each_yes : (had need : List ℕ) → switches_at s n lo t j ≡ true → n ≤ length had → t < no_switch
          → ((i : ℕ) → i < n → units_of had i ≡ min (ordinary s i) (entries_in lo i (t + 1)))
          → ((i : ℕ) → i < n → units_of need i ≡ needs_hi (square s n []) had j i)
          → each_switch F (l - t) t (lo_units t) ≡ or_else (scan F (units_of need) (l - (t + 1)) (t + 1) (state 1 0 (chain_of t) had)) on
      unfolding needs_hi
      each_yes had need p len small hs ns = each_turn ∙ ap (λ (x : Finding). or_else x on) (ap (λ (b : Bool). cond b behind nothing) here ∙ again)
        where
          here : switches_at s n lo t (entry_at lo t) ≡ true
          here = ap (switches_at s n lo t) (sym at) ∙ p

          same : (i : ℕ) → i < n → units_of (lo_units (t + 1)) i ≡ units_of had i
          same i a = lo_count (t + 1) i a ∙ ap (min (ordinary s i)) (sym (entries_all lo i (t + 1) (omega arith))) ∙ sym (hs i a)

          needed : (i : ℕ) → i < n → needs_hi F (lo_units (t + 1)) (entry_at lo t) i ≡ units_of need i
          needed i a =
              ap₂ (λ (x y : ℕ). elim (not (eqb i y) && leb (ordinary s i) x) [ true ↦ ordinary s i | false ↦ high s i ]) (same i a) (sym at) ∙ sym (ns i a)

          again : behind ≡ scan F (units_of need) (l - (t + 1)) (t + 1) (state 1 0 (chain_of t) had)
          again =
              ap₂ (λ (v : List ℕ) (y : ℕ). scan F (needs_hi F v (entry_at lo t)) (l - (t + 1)) y (state 1 0 (t ∷ []) v)) (runs_here here) (let e : suc t ≡ t + 1 = omega arith in e)
              ∙ scan_same s n l lo hi edge edge (λ p q x y. refl) (needs_hi F (lo_units (t + 1)) (entry_at lo t)) (units_of need) needed (l - (t + 1)) (t + 1) _ _
              (like 1 0 (t ∷ []) (lo_units (t + 1)) had record { at = same; long = omega (arith, lo_length (t + 1)); long' = len })
              ∙ ap (λ (c : List ℕ). scan F (units_of need) (l - (t + 1)) (t + 1) (state 1 0 c had)) (chain_at t small)
