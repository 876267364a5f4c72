-- A list and two tables, in bytes, as a frame of two levels. No second representation stands between the bytes and the meaning.
-- Assumes nothing.
use Rattle.std.specs.Prelude.{ℕ, Bool, cond, List, get_or, eqb}
use Rattle.basics.specs.Marks.{idle}
use Rattle.joblist.specs.Fields.{jobs, edges, slots, arrival, deadline, ordinary, high, level, edge_in}
use Rattle.frame.specs.Jobs.{Frame}

-- the frame of n jobs and l slots, with its edges given; past the tables, idle
abbrev pub frame_with : List ℕ → ℕ → ℕ → List ℕ → List ℕ → (ℕ → ℕ → Bool) → Frame
frame_with s n l lo hi edge = record {
  n = n;
  L = l;
  K = 2;
  arrival = λ j. arrival s j;
  deadline = λ j. deadline s j;
  level = λ j. level s j;
  budget = λ j m. cond (eqb m 0) (ordinary s j) (high s j);
  edge = edge;
  table = λ m t. cond (eqb m 0) (get_or lo t idle) (get_or hi t idle);
}

-- the frame of a list and its two tables
abbrev pub frame_of : List ℕ → List ℕ → List ℕ → Frame
frame_of s lo hi = frame_with s (jobs s) (slots s) lo hi (edge_in s (jobs s) (edges s))
