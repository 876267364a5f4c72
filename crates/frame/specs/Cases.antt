-- Frames written out, so that the worked lines of document 01 compute.
-- Assumes nothing.
use Rattle.std.specs.Prelude.{Bool, false, ◌&&◌, ◌||◌, List, [], ◌∷◌, ℕ, max, eqb, get_or, length}
use Rattle.frame.specs.Jobs.{Frame}

-- a job: arrival, deadline, level, and a budget for each mode
pub record Job : Type 0 where
  pub arrival : ℕ
  pub deadline : ℕ
  pub level : ℕ
  pub budgets : List ℕ

-- (a, d, level, CLO, CHI), as document 01 writes a job
abbrev pub job : ℕ → ℕ → ℕ → ℕ → ℕ → Job
job a d v lo hi = record { arrival = a; deadline = d; level = v; budgets = lo ∷ hi ∷ [] }

abbrev no_job : Job
no_job = record { arrival = 0; deadline = 0; level = 0; budgets = [] }

abbrev pub is_edge : List (ℕ × ℕ) → ℕ → ℕ → Bool
is_edge [] p s = false
is_edge (x ∷ xs) p s = (eqb x.0 p && eqb x.1 s) || is_edge xs p s

-- the largest deadline
abbrev pub largest : List Job → ℕ
largest [] = 0
largest (x ∷ xs) = max x.deadline (largest xs)

-- the frame of K levels with these jobs, edges and tables
abbrev pub frame : ℕ → List Job → List (ℕ × ℕ) → List (List ℕ) → Frame
frame K js es ts = record {
  n = length js;
  L = largest js;
  K = K;
  arrival = λ j. (get_or js j no_job).arrival;
  deadline = λ j. (get_or js j no_job).deadline;
  level = λ j. (get_or js j no_job).level;
  budget = λ j m. get_or (get_or js j no_job).budgets m 0;
  edge = is_edge es;
  table = λ m t. get_or (get_or ts m []) t 255;
}

-- list A
abbrev pub list_a : List Job
list_a = job 0 5 1 1 3 ∷ job 0 3 0 2 2 ∷ []

abbrev pub idle : List ℕ
idle = 255 ∷ 255 ∷ 255 ∷ 255 ∷ 255 ∷ []
