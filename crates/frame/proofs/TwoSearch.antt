-- For two levels the search is document 01's: table LO, then each switch, by one scan of table HI.
-- Assumes nothing.
use mathlib.Core.Bool.{Bool, ◌&&◌, and-true, cond, false, true}
use mathlib.Core.List.{List, [], ◌∷◌}
use mathlib.Core.Option.{Option, none, some}
use mathlib.Core.Path.{◌∙◌, ◌≡◌, ap, fun_ext, refl}
use Prim.Native.Nat.{◌<◌, suc, zero, ℕ}
use native.Mathlib.Omega.{arith}
use borrow.Author.Tests.{eq-eqb, eqb-true, le-leb, le-ltb, lt-ltb, ltb-true}
use lib.Dec.{eqb, ltb}
use lib.ListN.{replicate}
use Rattle.basics.proofs.Find.{find_no, find_yes}
use Rattle.basics.specs.Find.{find}
use Rattle.basics.specs.Units.{one_more, units_of}
use Rattle.frame.proofs.Beside.{crit_step}
use Rattle.frame.proofs.Turn.{last_mode}
use Rattle.frame.specs.Execution.{next_mode, opened, runs, state, step}
use Rattle.frame.specs.Jobs.{Frame, WellFormed}
use Rattle.frame.specs.Search.{Finding, Rest, first_fault, needs_after, nothing, or_else, reaches_budget, scan, search_from, switch_at, switches, try_switch}
use Rattle.frame.specs.TwoLevels.{CHI, CLO, each_switch, is_high, needs_hi, search_two, switches_here}

module _ (F : Frame) (W : WellFormed F) (two : F.K ≡ 2) where
  -- a job with CHI > CLO is high
  switches_high : (j : ℕ) → j < F.n → CLO F j < CHI F j → F.level j ≡ 1
  switches_high j a l = go (F.level j) refl
    where
      go : (v : ℕ) → F.level j ≡ v → F.level j ≡ 1
      go zero p =
          let t = W.budget_top j 1 a (omega arith) (omega arith) in
          let z : F.budget j (F.level j) ≡ F.budget j 0 = ap (F.budget j) p in
          absurd (omega arith)
      go (suc v) p = omega (arith, W.level_below j a)

  -- the mode after LO is HI, where CHI > CLO
  next_two : (j : ℕ) (b : Bool) → ltb (CLO F j) (CHI F j) ≡ b → ◌≡◌ {A = Option ℕ} (next_mode F j 0) (cond b (some 1) none)
  unfolding next_mode find
  next_two j b p =
      ap (λ (k : ℕ). find (λ (m' : ℕ). ltb (CLO F j) (F.budget j m')) k 0) two
      ∙ find_no (λ (m' : ℕ). ltb (CLO F j) (F.budget j m')) 1 0 (le-ltb (CLO F j) (CLO F j) (omega arith))
      ∙ go b p
    where
      go : (b : Bool) → ltb (CLO F j) (CHI F j) ≡ b → find (λ (m' : ℕ). ltb (CLO F j) (F.budget j m')) 1 1 ≡ cond b (some 1) none
      go true p = find_yes (λ (m' : ℕ). ltb (CLO F j) (F.budget j m')) 0 1 p
      go false p = find_no (λ (m' : ℕ). ltb (CLO F j) (F.budget j m')) 0 1 p

  -- in LO with every job using CLO, the named job runs where it is unfinished
  runs_clo : (t : ℕ) (u : List ℕ) (j : ℕ) → runs F (CLO F) t 0 u j ≡ (ltb j F.n && ltb (units_of u j) (CLO F j))
  unfolding runs
  runs_clo t u j = rw (le-leb 0 (F.level j) (omega arith)) (ap (λ (b : Bool). ltb j F.n && b) (and-true (ltb (units_of u j) (CLO F j))))

  -- one switch
  switch_two : (k t : ℕ) (u : List ℕ) (j : ℕ)
      → switch_at F (λ k c t s. scan F c k t s) k (CLO F) t (state 0 0 [] u) j
      ≡ cond (switches_here F u j) (scan F (needs_hi F (one_more true j u) j) k (suc t) (state 1 0 (t ∷ []) (one_more true j u))) nothing
  unfolding switch_at try_switch reaches_budget switches_here needs_after needs_hi
  switch_two k t u j = go (ltb j F.n) (ltb (CLO F j) (CHI F j)) (eqb (suc (units_of u j)) (CLO F j)) refl refl refl
    where
      behind : Finding
      behind = scan F (needs_hi F (one_more true j u) j) k (suc t) (state 1 0 (t ∷ []) (one_more true j u))

      try : Bool → Option ℕ → Finding
      try b o = try_switch F (λ k c t s. scan F c k t s) k (CLO F) t (state 0 0 [] u) j b o

      go : (a b c : Bool) → ltb j F.n ≡ a → ltb (CLO F j) (CHI F j) ≡ b → eqb (suc (units_of u j)) (CLO F j) ≡ c
          → try (runs F (CLO F) t 0 u j && eqb (suc (units_of u j)) (CLO F j)) (next_mode F j 0)
          ≡ cond (ltb j F.n && (is_high F j && (ltb (CLO F j) (CHI F j) && eqb (suc (units_of u j)) (CLO F j)))) behind nothing
      go false b c p q r = rw (runs_clo t u j, p)
      go true b false p q r = rw (r, q, p) (none_here (runs F (CLO F) t 0 u j) (next_mode F j 0) (is_high F j) b)
        where
          none_here : (x : Bool) (o : Option ℕ) (y b : Bool) → try (x && false) o ≡ cond (y && (b && false)) behind nothing
          none_here true o true true = refl
          none_here true o true false = refl
          none_here true o false b = refl
          none_here false o true true = refl
          none_here false o true false = refl
          none_here false o false b = refl
      go true false true p q r = rw (next_two j false q, q, p) (no_mode (runs F (CLO F) t 0 u j && eqb (suc (units_of u j)) (CLO F j)) (is_high F j))
        where
          no_mode : (x y : Bool) → try x none ≡ cond (y && false) behind nothing
          no_mode true true = refl
          no_mode true false = refl
          no_mode false true = refl
          no_mode false false = refl
      go true true true p q r =
          let l : units_of u j < CLO F j = omega (arith, eqb-true (suc (units_of u j)) (CLO F j) r) in
          let h = switches_high j (ltb-true j F.n p) (ltb-true (CLO F j) (CHI F j) q) in
          rw (runs_clo t u j, lt-ltb (units_of u j) (CLO F j) l, next_two j true q, q, r, p, eq-eqb (F.level j) 1 h)

  each_two : (k t : ℕ) (u : List ℕ) → switches F (λ k c t s. scan F c k t s) k (CLO F) t (state 0 0 [] u) ≡ each_switch F k t u
  unfolding switches each_switch
  each_two zero t u = refl
  each_two (suc k) t u =
      λ i. or_else (switch_two k t u j i) (rest (λ v. each_two k (suc t) v) i)
    where
      j : ℕ
      j = F.table 0 t

      rest : ((v : List ℕ) → switches F (λ k c t s. scan F c k t s) k (CLO F) (suc t) (state 0 0 [] v) ≡ each_switch F k (suc t) v)
          → switches F (λ k c t s. scan F c k t s) k (CLO F) (suc t) (step F (CLO F) t (state 0 0 [] u)) ≡ each_switch F k (suc t) (one_more (ltb j F.n && ltb (units_of u j) (CLO F j)) j u)
      rest deeper =
          ap (switches F (λ k c t s. scan F c k t s) k (CLO F) (suc t)) (crit_step F W (CLO F) t 0 0 [] u j refl (λ i a l. refl)) ∙ deeper (one_more (runs F (CLO F) t 0 u j) j u)
          ∙ ap (λ (b : Bool). each_switch F k (suc t) (one_more b j u)) (runs_clo t u j)

  pub two_search : first_fault F ≡ search_two F
  unfolding first_fault search_from search_two
  two_search =
      ap (λ (x : ℕ). search_from F x F.L (CLO F) 0 (opened F)) two
      ∙ ap (λ (r : Rest F). or_else (scan F (CLO F) F.L 0 (opened F)) (switches F r F.L (CLO F) 0 (opened F))) (fun_ext (λ k. fun_ext (λ c. fun_ext (λ t. fun_ext (λ s. last_mode F k c t s)))))
      ∙ ap (or_else (scan F (CLO F) F.L 0 (opened F))) (each_two F.L 0 (replicate F.n 0))
