-- Document 01, 'One execution': what each slot makes of an execution, and where an execution is bad.
-- Assumes nothing.
use Rattle.std.specs.Prelude.{Bool, true, false, ◌&&◌, ◌||◌, List, [], ◌∷◌, ◌≡◌, ℕ, zero, suc, ◌≤◌, ◌<◌, replicate, T, leb, ltb}
use Rattle.std.proofs.Math.Option.{Option, some, none}
use Rattle.basics.specs.Find.{find, is_none}
use Rattle.basics.specs.Units.{units_of, one_more}
use Rattle.frame.specs.Jobs.{Frame}

-- what stands at the opening of a slot: the mode, the mode of the slot before, the units each job has had, and the slots that switched, latest first
pub record State : Type 0 where
  pub mode : ℕ
  pub mode_before : ℕ
  pub had : List ℕ
  pub chain : List ℕ

abbrev pub state : ℕ → ℕ → List ℕ → List ℕ → State
state m q c u = record { mode = m; mode_before = q; had = u; chain = c }

-- after slot t in mode m: the rest of the frame goes on in m, or in the mode that a job switches to
unfoldable pub switch_to : Bool → ℕ → ℕ → Option ℕ → List ℕ → List ℕ → State
switch_to false t m o u c = state m m c u
switch_to true t m none u c = state m m c u
switch_to true t m (some m') u c = state m' m (t ∷ c) u

-- the ways of being bad: job j is late; the named job j is too early; the named job j is before its predecessor p
pub data Badness : Type 0 where
  late : ℕ → Badness
  early : ℕ → Badness
  before : ℕ → ℕ → Badness

module _ (F : Frame) where
  -- each job needs e units, 1 <= e <= CLO for low, 1 <= e <= CHI for high
  abbrev pub Valid : (ℕ → ℕ) → Type 0
  Valid e = (j : ℕ) → j < F.n → (1 ≤ e j) × (e j ≤ F.budget j (F.level j))

  -- the lowest mode in which the job's budget is larger than in mode m
  unfoldable pub next_mode : ℕ → ℕ → Option ℕ
  next_mode j m = find (λ (m' : ℕ). ltb (F.budget j m) (F.budget j m')) F.K 0

  -- the frame opens in LO
  abbrev pub opened : State
  opened = state 0 0 [] (replicate F.n 0)

  module _ (e : ℕ → ℕ) where
    -- the lowest predecessor of j that is unfinished
    unfoldable pub waits_for : List ℕ → ℕ → Option ℕ
    waits_for u j = find (λ (p : ℕ). let x = ltb (units_of u p) (e p) in F.edge p j && x) F.n 0

    -- j has arrived, t < d, and its predecessors are finished
    unfoldable pub ready : ℕ → List ℕ → ℕ → Bool
    ready t u j =
        let w = is_none (waits_for u j) in
        leb (F.arrival j) t && (ltb t (F.deadline j) && w)

    -- the named job j runs unless it is finished; below the mode (in HI a low job) only if it is ready
    unfoldable pub runs : ℕ → ℕ → List ℕ → ℕ → Bool
    runs t m u j =
        let x = ready t u j in
        let y = ltb (units_of u j) (e j) && (leb m (F.level j) || x) in
        ltb j F.n && y

    -- j has had its budget for the mode and is unfinished
    unfoldable pub outran : ℕ → ℕ → ℕ → Bool
    outran m had j = ltb had (e j) && leb (F.budget j m) had

    -- slot t, in which the named job j runs or not
    unfoldable pub slot_with : ℕ → State → ℕ → Bool → State
    slot_with t s j r =
        switch_to (r && outran s.mode (suc (units_of s.had j)) j) t s.mode (next_mode j s.mode) (one_more r j s.had) s.chain

    -- slot t: the mode's table names the job, at the same slot number in each mode
    unfoldable pub step : ℕ → State → State
    step t s = slot_with t s (F.table s.mode t) (runs t s.mode s.had (F.table s.mode t))

    -- the state at the opening of slot t
    unfoldable pub opening : ℕ → State
    opening zero = opened
    opening (suc t) = step t (opening t)

    -- what is bad at the opening of slot t: late, where jobs below the mode of the slot before don't count;
    -- and of the named job, unfinished and not below the mode, too early or before a predecessor
    unfoldable pub Bad : ℕ → State → Badness → Type 0
    Bad t s (late j) = (j < F.n) × (F.deadline j ≡ t) × (s.mode_before ≤ F.level j) × (units_of s.had j < e j)
    Bad t s (early j) =
        (j < F.n) × (F.table s.mode t ≡ j) × (s.mode ≤ F.level j) × (units_of s.had j < e j) × (t < F.arrival j)
    Bad t s (before j p) =
        (j < F.n) × (F.table s.mode t ≡ j) × (s.mode ≤ F.level j) × (units_of s.had j < e j) × (p < F.n) × T (F.edge p j) × (units_of s.had p < e p)

    -- the execution is bad at slot t
    abbrev pub BadAt : ℕ → Badness → Type 0
    BadAt t w = Bad t (opening t) w
