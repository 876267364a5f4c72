-- And so for the search of two levels, with the needs as functions and edges that agree below n.
-- Assumes nothing.
use mathlib.Core.Bool.{Bool, ◌&&◌, cond, false, not, true}
use mathlib.Core.List.{List, [], ◌∷◌}
use mathlib.Core.Path.{◌∙◌, ◌≡◌, ap, ap₂, refl, sym}
use Prim.Native.Nat.{◌<◌, ◌≤◌, suc, zero, ℕ}
use native.Mathlib.Omega.{arith}
use borrow.Author.Tests.{ltb-true}
use lib.Dec.{eqb, leb, ltb}
use lib.ListN.{get_or-replicate, length-replicate, replicate}
use Rattle.basics.proofs.Tests.{and_left, not_both}
use Rattle.basics.specs.Units.{one_more, units_of}
use Rattle.frame.specs.Execution.{state}
use Rattle.frame.specs.Jobs.{Frame}
use Rattle.frame.specs.Search.{Finding, nothing, or_else, scan}
use Rattle.frame.specs.TwoLevels.{CLO, each_switch, needs_hi, search_two, switches_here}
use Rattle.joblist.specs.Fields.{high, level, ordinary}
use Rattle.verdict.proofs.Same.{Same, job_case, like, more_same, scan_same}
use Rattle.verdict.specs.FrameOf.{frame_with}

module _ (s : List ℕ) (n l : ℕ) (lo hi : List ℕ) (edge edge' : ℕ → ℕ → Bool) (edges : (p q : ℕ) → p < n → q < n → edge p q ≡ edge' p q) where
  abbrev F : Frame
  F = frame_with s n l lo hi edge

  abbrev G : Frame
  G = frame_with s n l lo hi edge'

  abbrev Both : (u u' : List ℕ) → Type 0
  Both u u' = Same s n l lo hi edge edge' edges u u'

  here_same : (u u' : List ℕ) → Both u u' → (j : ℕ) → switches_here F u j ≡ switches_here G u' j
  unfolding switches_here
  here_same u u' h j =
      job_case s n l lo hi edge edge' edges j _ _ (λ b. ap (λ (x : ℕ). eqb (level s j) 1 && (ltb (ordinary s j) (high s j) && eqb (suc x) (ordinary s j))) (h.at j b))

  here_job : (u : List ℕ) (j : ℕ) → switches_here F u j ≡ true → j < n
  unfolding switches_here
  here_job u j p = ltb-true _ _ (and_left (ltb j n) _ p)

  needs_same : (u u' : List ℕ) → Both u u' → (k i : ℕ) → i < n → needs_hi F u k i ≡ needs_hi G u' k i
  unfolding needs_hi
  needs_same u u' h k i l = ap (λ (x : ℕ). elim (not (eqb i k) && leb (ordinary s i) x) [ true ↦ ordinary s i | false ↦ high s i ]) (h.at i l)

  each_same : (k t : ℕ) (u u' : List ℕ) → Both u u' → each_switch F k t u ≡ each_switch G k t u'
  unfolding each_switch
  each_same zero t u u' h = refl
  each_same (suc k) t u u' h = λ i. or_else (here i) (rest (λ v v' w. each_same k (suc t) v v' w) i)
    where
      j : ℕ
      j = F.table 0 t

      behind : Frame → List ℕ → Finding
      behind H v = scan H (needs_hi H (one_more true j v) j) k (suc t) (state 1 0 (t ∷ []) (one_more true j v))

      here : cond (switches_here F u j) (behind F u) nothing ≡ cond (switches_here G u' j) (behind G u') nothing
      here = go (switches_here F u j) (switches_here G u' j) (here_same u u' h j) (here_job u j)
        where
          go : (b b' : Bool) → b ≡ b' → (b ≡ true → j < n) → cond b (behind F u) nothing ≡ cond b' (behind G u') nothing
          go true true p g =
              let w = more_same s n l lo hi edge edge' edges true j u u' (λ z. g refl) h in
              scan_same s n l lo hi edge edge' edges _ _ (λ i x. needs_same _ _ w j i x) k (suc t) _ _ (like 1 0 (t ∷ []) _ _ w)
          go false false p g = refl
          go true false p g = absurd (not_both refl p)
          go false true p g = absurd (not_both p refl)

      runs_lo_lem : List ℕ → Bool
      runs_lo_lem v = ltb j n && ltb (units_of v j) (ordinary s j)

      rest : ((v v' : List ℕ) → Both v v' → each_switch F k (suc t) v ≡ each_switch G k (suc t) v')
          → each_switch F k (suc t) (one_more (runs_lo_lem u) j u) ≡ each_switch G k (suc t) (one_more (runs_lo_lem u') j u')
      rest deeper =
          deeper _ _ (more_same s n l lo hi edge edge' edges (runs_lo_lem u) j u u' (λ p. ltb-true _ _ (and_left (ltb j n) _ p)) h)
          ∙ ap (λ (b : Bool). each_switch G k (suc t) (one_more b j u')) (job_case s n l lo hi edge edge' edges j _ _ (λ b. ap (λ (x : ℕ). ltb x (ordinary s j)) (h.at j b)))

  blank : (x y : ℕ) → n ≤ x → n ≤ y → Both (replicate x 0) (replicate y 0)
  blank x y a b = record {
    at = λ i k. get_or-replicate {A = ℕ} x i 0 0 (omega arith) ∙ sym (get_or-replicate {A = ℕ} y i 0 0 (omega arith));
    long = omega (arith, length-replicate {A = ℕ} x 0);
    long' = omega (arith, length-replicate {A = ℕ} y 0);
  }

  -- the search of two levels, where the code keeps needs and units in arrays of x entries
  pub search_same : (x : ℕ) (need : List ℕ) → n ≤ x → ((j : ℕ) → j < n → units_of need j ≡ ordinary s j)
      → search_two G ≡ or_else (scan F (units_of need) l 0 (state 0 0 [] (replicate x 0))) (each_switch F l 0 (replicate n 0))
  unfolding search_two
  search_same x need h ns =
      sym (ap₂ or_else (scan_same s n l lo hi edge edge' edges (units_of need) (CLO G) ns l 0 _ _ (like 0 0 [] _ _ (blank x n h (omega arith))))
      (each_same l 0 (replicate n 0) (replicate n 0) (blank n n (omega arith) (omega arith))))
