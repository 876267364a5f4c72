-- Document 01's own words for two levels: low and high, LO and HI, CLO and CHI. That the general definitions say the same is proved.
-- Assumes nothing.
use Rattle.std.specs.Prelude.{Bool, true, false, cond, not, ◌&&◌, ◌||◌, List, [], ◌∷◌, ◌⊎◌, ◌≡◌, ℕ, zero, suc, ◌≤◌, ◌<◌, replicate, T, leb, ltb, eqb}
use Rattle.basics.specs.Units.{units_of, one_more}
use Rattle.frame.specs.Jobs.{Frame}
use Rattle.frame.specs.Execution.{state, opened, Badness, late, early, before, ready}
use Rattle.frame.specs.Search.{Finding, nothing, or_else, scan}

-- LO, or HI after a switch at a slot: the first HI slot is the next one
pub data Mode : Type 0 where
  LO : Mode
  HI : ℕ → Mode

-- the mode and the units had at the opening of a slot
pub record Standing : Type 0 where
  pub mode : Mode
  pub had : List ℕ

module _ (F : Frame) where
  abbrev pub CLO : ℕ → ℕ
  CLO j = F.budget j 0

  abbrev pub CHI : ℕ → ℕ
  CHI j = F.budget j 1

  -- level: 0 low, 1 high
  abbrev pub is_high : ℕ → Bool
  is_high j = eqb (F.level j) 1

  -- table HI is read at the same slot number
  abbrev pub named : Mode → ℕ → ℕ
  named LO t = F.table 0 t
  named (HI x) t = F.table 1 t

  module _ (e : ℕ → ℕ) where
    -- the named job runs one unit unless it is finished; in HI a low job only if also ready: arrived, t < d and its predecessors finished
    unfoldable pub runs_in : Mode → ℕ → List ℕ → ℕ → Bool
    runs_in LO t u j = ltb j F.n && ltb (units_of u j) (e j)
    runs_in (HI x) t u j =
        let r = is_high j || ready F e t u j in
        ltb j F.n && (ltb (units_of u j) (e j) && r)

    -- a high job that has had CLO units in LO and is unfinished switches the rest of the frame to HI
    unfoldable pub mode_after : Mode → ℕ → Bool → ℕ → ℕ → Mode
    mode_after LO t ran j had =
        let x = leb (CLO j) had && ltb had (e j) in
        cond (ran && (is_high j && x)) (HI t) LO
    mode_after (HI x) t ran j had = HI x

    unfoldable pub slot_in : ℕ → Standing → ℕ → Bool → Standing
    slot_in t s j ran =
        record { mode = mode_after s.mode t ran j (suc (units_of s.had j)); had = one_more ran j s.had }

    -- the frame opens in LO; then slot by slot
    unfoldable pub standing : ℕ → Standing
    standing zero = record { mode = LO; had = replicate F.n 0 }
    standing (suc t) =
        let s = standing t in
        slot_in t s (named s.mode t) (runs_in s.mode t s.had (named s.mode t))

  -- in HI, low jobs with d after the first HI slot don't count
  abbrev pub CountsLate : Mode → ℕ → Type 0
  CountsLate LO j = Unit {0}
  CountsLate (HI x) j = (F.level j ≡ 1) ⊎ (F.deadline j ≤ suc x)

  -- in HI, the named job counts where it is high
  abbrev pub CountsNamed : Mode → ℕ → Type 0
  CountsNamed LO j = Unit {0}
  CountsNamed (HI x) j = F.level j ≡ 1

  -- bad at the opening of slot t
  unfoldable pub BadIn : (ℕ → ℕ) → ℕ → Standing → Badness → Type 0
  BadIn e t s (late j) = (j < F.n) × (F.deadline j ≡ t) × CountsLate s.mode j × (units_of s.had j < e j)
  BadIn e t s (early j) =
      (j < F.n) × (named s.mode t ≡ j) × CountsNamed s.mode j × (units_of s.had j < e j) × (t < F.arrival j)
  BadIn e t s (before j p) =
      (j < F.n) × (named s.mode t ≡ j) × CountsNamed s.mode j × (units_of s.had j < e j) × (p < F.n) × T (F.edge p j) × (units_of s.had p < e p)

  -- a switch: a high job with CHI > CLO at its CLO-th unit
  unfoldable pub switches_here : List ℕ → ℕ → Bool
  switches_here u j =
      let x = ltb (CLO j) (CHI j) && eqb (suc (units_of u j)) (CLO j) in
      ltb j F.n && (is_high j && x)

  -- after a switch of k, a job other than k that had its CLO units is finished; all others need CHI
  unfoldable pub needs_hi : List ℕ → ℕ → ℕ → ℕ
  needs_hi u k i = elim (not (eqb i k) && leb (CLO i) (units_of u i)) [ true ↦ CLO i | false ↦ CHI i ]

  -- by rising switch slot, from the slot after it, in table HI
  unfoldable pub each_switch : ℕ → ℕ → List ℕ → Finding
  each_switch zero t u = nothing
  each_switch (suc k) t u =
      let j = F.table 0 t in
      let u' = one_more true j u in
      let behind = scan F (needs_hi u' j) k (suc t) (state 1 0 (t ∷ []) u') in
      let rest = each_switch k (suc t) (one_more (ltb j F.n && ltb (units_of u j) (CLO j)) j u) in
      or_else (cond (switches_here u j) behind nothing) rest

  -- table LO with every job using CLO; then each switch
  unfoldable pub search_two : Finding
  search_two =
      let rest = each_switch F.L 0 (replicate F.n 0) in
      or_else (scan F CLO F.L 0 (opened F)) rest
