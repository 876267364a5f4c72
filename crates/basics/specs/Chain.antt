-- The rows of a table of refusals, in their order: the first that refuses answers.
-- Assumes nothing.
use Rattle.std.specs.Prelude.{ℕ, Bool, cond, Result, Ok, Err}
use Rattle.std.specs.Result.{result_and}
use Rattle.basics.specs.Turns.{turns}

infixr 20 ◌⨾◌
-- the first answer where it refuses, and otherwise the rest
abbrev pub ◌⨾◌ : {T U E : Type 0} → Result T E → Result U E → Result U E
a ⨾ r = result_and a r

-- yes where the test holds, and otherwise the refusal
abbrev pub need : {E : Type 0} → Bool → E → Result Unit E
need b w = cond b (Ok tt) (Err w)

-- what each number from 0 to n - 1 answers, in turn
abbrev pub each : {E : Type 0} → ℕ → (ℕ → Result Unit E) → Result Unit E
each n f = turns ◌⨾◌ (Ok tt) f n 0
