-- Demand 3, as a statement. It rests on 'One execution', and not on the search.
-- Assumes nothing.
use Rattle.std.specs.Prelude.{◌≡◌, ◌↔◌, ℕ, ◌≤◌}
use Rattle.frame.specs.Jobs.{Frame}
use Rattle.frame.specs.Execution.{Badness, Valid, opening, BadAt}
use Rattle.frame.specs.Search.{Fault, nothing, found, first_fault}

module _ (F : Frame) where
  -- no valid execution is bad at any slot to L
  abbrev pub EveryExecutionGood : Type 0
  EveryExecutionGood = (e : ℕ → ℕ) → Valid F e → (t : ℕ) → t ≤ F.L → (w : Badness) → ¬ BadAt F e t w

  -- a real execution that is bad at the fault's slot, with its job, predecessor and chain of switch slots
  pub record Real (f : Fault) : Type 0 where
    pub demand : ℕ → ℕ
    pub valid : Valid F demand
    pub in_frame : f.slot ≤ F.L
    pub bad : BadAt F demand f.slot f.kind
    pub switched : (opening F demand f.slot).chain ≡ f.chain

  pub record Demand3 : Type 0 where
    pub yes_iff : (first_fault F ≡ nothing) ↔ EveryExecutionGood
    pub no_real : (f : Fault) → first_fault F ≡ found f → Real f
