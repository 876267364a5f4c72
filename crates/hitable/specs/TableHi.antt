-- Table HI, slot t from 0, with a row of owed units, its front first.
-- Assumes nothing.
use Rattle.std.specs.Prelude.{ℕ, zero, suc, ◌+◌, ◌-◌, List, [], ◌∷◌, ◌++◌, Bool, cond, ◌&&◌, set, replicate, ltb, eqb}
use Rattle.joblist.specs.Fields.{jobs, slots, ordinary, high, level}
use Rattle.late.specs.Table.{entry, units, all_idle}

-- the unit placed in a slot, and the row after it
pub record Turn : Type 0 where
  pub unit : ℕ
  pub row : List ℕ

-- the front unit is placed, or with an empty row the entry x
abbrev pub front : List ℕ → ℕ → Turn
front [] x = record { unit = x; row = [] }
front (u ∷ row) x = record { unit = u; row = row }

-- table HI as far as it is made, and the row
pub record Hi : Type 0 where
  pub row : List ℕ
  pub table : List ℕ

module _ (s : List ℕ) where
  -- x is a high job
  unfoldable pub is_high : ℕ → Bool
  is_high x = ltb x (jobs s) && eqb (level s x) 1

  -- table LO has x at the slot, and THI, as first made, y. A high job x: where y is that job, it stays; else it joins the back of the row and the front unit is placed. A low job or idle: the front unit is placed, or with an empty row the entry is copied
  unfoldable pub turn : ℕ → ℕ → List ℕ → Turn
  turn x y row =
      cond (is_high x) (cond (eqb y x) (record { unit = x; row = row }) (front (row ++ (x ∷ [])) x)) (front row x)

  -- a unit of u is placed, its k-th: when that is a job's CLO-th unit, its CHI - CLO further units go to the front of the row
  unfoldable pub owing : ℕ → ℕ → List ℕ → List ℕ
  owing u k row =
      cond (ltb u (jobs s) && eqb k (ordinary s u)) (replicate (high s u - ordinary s u) u ++ row) row

  -- a unit is placed in slot t
  abbrev pub place : List ℕ → ℕ → Turn → Hi
  place table t p =
      record { row = owing p.unit (units (set table t p.unit) (t + 1) p.unit) p.row; table = set table t p.unit }

  module _ (lo thi : List ℕ) where
    -- at the opening of slot t; units owed after the last slot are dropped
    unfoldable pub hi_at : List ℕ → ℕ → Hi
    hi_at start zero = record { row = []; table = start }
    hi_at start (suc t) = place (hi_at start t).table t (turn (entry lo t) (entry thi t) (hi_at start t).row)

    unfoldable pub table_hi : List ℕ
    table_hi = (hi_at (all_idle s) (slots s)).table
