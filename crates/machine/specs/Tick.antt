-- What a tick says, as request 2026-02 amends document 01: the one place where the tick difference decides.
-- Assumes nothing.
use Rattle.std.specs.Prelude.{◌≡◌, ℕ, ◌+◌, ◌-◌, ◌%◌, ◌≤◌, ◌==◌, nat_lt}
use Rattle.basics.specs.Choice.{pick}
use Rattle.machine.specs.declared.tick.Tick.{Tick}
use Rattle.machine.specs.declared.tick.Tick.TheVariants.{Next, Same, Lost, Half, Stale}

-- the difference of two 16-bit ticks, modulo 65536
unfoldable pub difference : ℕ → ℕ → ℕ
difference tick last = (tick + (65536 - last)) % 65536

-- 0 is the same tick, 1 the next slot, 2 to 32,767 lost ticks, 32,768 half the counter away, the rest stale
unfoldable pub case_of : ℕ → Tick
case_of d =
    pick (d == 0) Same
    (pick (d == 1) Next
    (pick (nat_lt d 32768) Lost
    (pick (d == 32768) Half
    Stale)))

-- the difference alone decides
unfoldable pub tick_of : ℕ → ℕ → Tick
tick_of last tick = case_of (difference tick last)

-- the differences that each case covers
abbrev pub Covers : Tick → ℕ → Type 0
Covers Same d = d ≡ 0
Covers Next d = d ≡ 1
Covers Lost d = (2 ≤ d) × (d ≤ 32767)
Covers Half d = d ≡ 32768
Covers Stale d = (32769 ≤ d) × (d ≤ 65535)

-- one case covers a difference, and no other does
pub record OneCase (d : ℕ) : Type 0 where
  pub case : Tick
  pub covers : Covers case d
  pub only : (t : Tick) → Covers t d → t ≡ case
