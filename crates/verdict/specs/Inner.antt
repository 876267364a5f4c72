-- What the check's inner functions are said to compute. Nobody has to believe this file: `check_of` cites none of it.
-- Assumes nothing.
use Rattle.std.specs.Prelude.{ℕ, ◌+◌, ◌*◌, ◌<◌, ◌≤◌, ◌≡◌, List, [], ◌∷◌, Bool, false, cond, ◌&&◌, get_or, eqb, ltb, Option as First, Some, None, Result, Ok, Err}
use Rattle.std.proofs.Math.Option.{Option, some, none}
use Rattle.basics.specs.Limits.{first_edition}
use Rattle.basics.specs.Marks.{no_switch}
use Rattle.joblist.specs.Fields.{ordinary, high, level}
use Rattle.frame.specs.Jobs.{Frame}
use Rattle.frame.specs.Search.{Finding, nothing, found}
use Rattle.verdict.specs.Count.{entries_in}
use Rattle.verdict.specs.FrameOf.{frame_with}
use Rattle.verdict.specs.Answer.{switch_of, fault_of}
use Rattle.verdict.specs.declared.Fault.{Fault}

-- what a search answers: nothing, or the first fault
abbrev pub Search : Type 0
Search = Result Unit Fault

-- what the search finds, as the code says it
abbrev pub told : Finding → Search
told nothing = Ok tt
told (found f) = Err (fault_of f.slot (switch_of f.chain) f.kind)

-- the chain of a switch slot, none where it is the mark
abbrev pub chain_of : ℕ → List ℕ
chain_of x = cond (eqb x no_switch) [] (x ∷ [])

-- what is found first, as the code says it
abbrev pub first_of : Option ℕ → First ℕ
first_of none = None
first_of (some i) = Some i

-- edges as a square of bits: in the row of q whether p comes before it
abbrev pub pair_at : ℕ → ℕ → ℕ
pair_at p q = first_edition.jobs * q + p

abbrev pub pairs : ℕ
pairs = first_edition.jobs * first_edition.jobs

abbrev pub edge_at : List Bool → ℕ → ℕ → Bool
edge_at b p q = get_or b (pair_at p q) false

-- the square alone, with no tables
abbrev pub square : List ℕ → ℕ → List Bool → Frame
square s n b = frame_with s n 0 [] [] (edge_at b)

-- slot t, whose entry in table LO is j, has a switch: a high job with CHI > CLO at its CLO-th unit
abbrev pub switches_at : List ℕ → ℕ → List ℕ → ℕ → ℕ → Bool
switches_at s n lo t j =
    ltb j n && (eqb (level s j) 1 && (ltb (ordinary s j) (high s j) && eqb (entries_in lo j t + 1) (ordinary s j)))

-- no high budget is below the ordinary one
abbrev pub Rising : List ℕ → ℕ → Type 0
Rising s n = (j : ℕ) → j < n → ordinary s j ≤ high s j

-- a scan that never switches: budgets rise, and in LO each job needs its ordinary budget
pub record Steady (s : List ℕ) (n mode : ℕ) (need : List ℕ) : Type 0 where
  pub rising : Rising s n
  pub ordered : mode ≡ 0 → (j : ℕ) → j < n → get_or need j 0 ≡ ordinary s j
