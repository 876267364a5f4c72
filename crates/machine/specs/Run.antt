-- What a step changes: the head, and the counts and marks of the jobs.
-- Assumes nothing.
use Rattle.std.specs.Prelude.{ℕ, ◌-◌, List}
use Rattle.basics.specs.Marks.{idle}
use Rattle.parts.specs.declared.lent.Marks.{Marks}
use Rattle.machine.specs.declared.head.Head.{Head}
use Rattle.machine.specs.Tick.{difference}

-- The head with one field anew.
abbrev pub with_slot : Head → ℕ → Head
with_slot h x = record { slot = x; last = h.last; ordered = h.ordered; high = h.high; halted = h.halted; spare = h.spare }

abbrev pub with_last : Head → ℕ → Head
with_last h x = record { slot = h.slot; last = x; ordered = h.ordered; high = h.high; halted = h.halted; spare = h.spare }

abbrev pub with_ordered : Head → ℕ → Head
with_ordered h x = record { slot = h.slot; last = h.last; ordered = x; high = h.high; halted = h.halted; spare = h.spare }

abbrev pub with_high : Head → ℕ → Head
with_high h x = record { slot = h.slot; last = h.last; ordered = h.ordered; high = x; halted = h.halted; spare = h.spare }

abbrev pub with_halted : Head → ℕ → Head
with_halted h x = record { slot = h.slot; last = h.last; ordered = h.ordered; high = h.high; halted = x; spare = h.spare }

-- at opening: the tick before the first is taken, at slot L-1 with no job ordered
unfoldable pub fresh_head : ℕ → ℕ → Head
fresh_head len first = record { slot = len - 1; last = difference first 1; ordered = idle; high = 0; halted = 0; spare = 0 }

-- all zero
unfoldable pub no_head : Head
no_head = record { slot = 0; last = 0; ordered = 0; high = 0; halted = 0; spare = 0 }

pub record Run : Type 0 where
  pub head : Head
  pub units : List ℕ
  pub done : List ℕ
  pub cut : List ℕ

abbrev pub joined : Head → List ℕ → List ℕ → List ℕ → Run
joined h u d c = record { head = h; units = u; done = d; cut = c }

-- the run of a head and of what is lent beside it
abbrev pub lent_run : Head → Marks → Run
lent_run h m = joined h m.units.now m.done.now m.cut.now

-- the run with another head
abbrev pub with_head : Run → Head → Run
with_head r h = joined h r.units r.done r.cut
