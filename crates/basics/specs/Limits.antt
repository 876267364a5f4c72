-- The limits of an edition, one record: every definition with a limit takes it as a parameter.
-- Assumes nothing.
use Rattle.std.specs.Prelude.{ℕ}

pub record Limits : Type 0 where
  pub jobs : ℕ
  pub edges : ℕ
  pub slots : ℕ
  pub budget : ℕ

-- the first edition: 64 jobs, 256 edges, 1,024 slots, budgets to 1,024
abbrev pub first_edition : Limits
first_edition = record { jobs = 64; edges = 256; slots = 1024; budget = 1024 }
