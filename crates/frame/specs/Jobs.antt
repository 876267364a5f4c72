-- Document 01, 'The job list': a frame, over its number of levels K. Document 01 is K = 2: level 0 low, 1 high; mode 0 LO, 1 HI.
-- Assumes nothing.
use Rattle.std.specs.Prelude.{Bool, ◌≡◌, ℕ, ◌≤◌, ◌<◌, T}

pub record Frame : Type 0 where
  -- the jobs are numbered from 0 to n - 1
  pub n : ℕ
  -- the slots are numbered from 0 to L - 1
  pub L : ℕ
  -- the levels, and the modes, are numbered from 0 to K - 1
  pub K : ℕ
  -- a job may run in slots arrival to deadline - 1
  pub arrival : ℕ → ℕ
  pub deadline : ℕ → ℕ
  pub level : ℕ → ℕ
  -- the budget of a job in a mode: CLO in mode 0, CHI in mode 1
  pub budget : ℕ → ℕ → ℕ
  -- an edge (p, s) says that p ends before s begins
  pub edge : ℕ → ℕ → Bool
  -- the job that a mode's table names in a slot; a number from n on is idle
  pub table : ℕ → ℕ → ℕ

pub record WellFormed (F : Frame) : Type 0 where
  -- there is a mode to open in
  pub modes : 0 < F.K
  -- a level is one of the K
  pub level_below : (j : ℕ) → j < F.n → F.level j < F.K
  -- 1 <= CLO
  pub budget_one : (j : ℕ) → j < F.n → 1 ≤ F.budget j 0
  -- CLO <= CHI: budgets never fall
  pub budget_up : (j m m' : ℕ) → j < F.n → m ≤ m' → m' < F.K → F.budget j m ≤ F.budget j m'
  -- a low job has CLO = CHI: budgets are equal from the job's own level on
  pub budget_top : (j m : ℕ) → j < F.n → F.level j ≤ m → m < F.K → F.budget j m ≡ F.budget j (F.level j)
  -- no edge goes from low to high
  pub edge_down : (p s : ℕ) → p < F.n → s < F.n → T (F.edge p s) → F.level s ≤ F.level p
