-- Laws of moving late: one unit more, and where it may go.
-- Assumes nothing.
use Prim.Native.Nat.{ℕ, zero, suc, ◌+◌, ◌-◌, ◌≤◌, ◌<◌}
use mathlib.Core.Path.{◌≡◌, refl, ◌∙◌}
use mathlib.Core.Option.{Option, some, none}
use mathlib.Core.List.{List}
use mathlib.Core.Bool.{Bool, true, false, cond}
use native.Mathlib.Numerals.{add-one}
use native.Mathlib.Omega.{arith}
use lib.ListN.{length, set, length-set}
use Rattle.basics.specs.Find.{find, found_or, lowest, highest}
use Rattle.basics.proofs.Find.{find_some}
use Rattle.joblist.specs.Fields.{jobs, slots, deadline}
use Rattle.joblist.specs.Accepted.{Accepted}
use Rattle.joblist.proofs.Accepted.{deadline_in_frame}
use Rattle.basics.specs.Limits.{Limits}
use Rattle.basics.specs.Marks.{idle}
use Rattle.late.specs.Table.{entry, held, empty}
use Rattle.late.specs.Late.{edf_at, holds_next, target, move, moved, late_table}
use Rattle.late.proofs.Earliest.{edf_long}

-- what is found lies where it was looked for
pub lowest_most : (f : ℕ → Bool) (n : ℕ) → lowest f n 0 ≤ n
unfolding lowest
lowest_most f n = go (find f (n - 0) 0) refl
  where
    go : (o : Option ℕ) → find f (n - 0) 0 ≡ o → found_or n o ≤ n
    go none e = omega arith
    go (some x) e = omega (arith, (find_some f (n - 0) 0 x e).2)

pub highest_most : (f : ℕ → Bool) (t b m : ℕ) → t < m → b ≤ m → highest f t b < m
unfolding highest
highest_most f t zero m h l = h
highest_most f t (suc b) m h l = go (f b) (highest_most f t b m h (omega arith))
  where
    go : (x : Bool) → highest f t b < m → cond x b (highest f t b) < m
    go true r = omega arith
    go false r = r

-- where the unit of slot t goes, is a slot
pub target_most : (lim : Limits) (s table : List ℕ) (j t : ℕ) → Accepted lim s → j < jobs s → t < slots s → target s table j t < slots s
unfolding target
target_most lim s table j t a h l =
    highest_most (empty s table) t (lowest (holds_next s table j) (deadline s j) 0) (slots s) l
    (let d = deadline_in_frame lim s a j h in omega (arith, lowest_most (holds_next s table j) (deadline s j)))

module _ (s : List ℕ) where
  pub move_held : (table : List ℕ) (t : ℕ) → held s table t ≡ true → move s table t ≡ set (set table t idle) (target s (set table t idle) (entry table t) t) (entry table t)
  unfolding move
  move_held table t e = rw e

  pub move_idle : (table : List ℕ) (t : ℕ) → held s table t ≡ false → move s table t ≡ table
  unfolding move
  move_idle table t e = rw e

  pub move_long : (table : List ℕ) (t : ℕ) → length (move s table t) ≡ length table
  unfolding move
  move_long table t = go (held s table t)
    where
      go : (b : Bool) → length (cond b (set (set table t idle) (target s (set table t idle) (entry table t) t) (entry table t)) table) ≡ length table
      go true = length-set (set table t idle) _ _ ∙ length-set table t idle
      go false = refl

  pub moved_zero : (table : List ℕ) → moved s table 0 ≡ table
  unfolding moved
  moved_zero table = refl

  pub moved_step : (table : List ℕ) (k : ℕ) → moved s table (k + 1) ≡ move s (moved s table k) (slots s - 1 - k)
  unfolding moved
  moved_step table k = rw add-one

  pub moved_long : (table : List ℕ) (k : ℕ) → length (moved s table k) ≡ length table
  unfolding moved
  moved_long table zero = refl
  moved_long table (suc k) = move_long (moved s table k) (slots s - 1 - k) ∙ moved_long table k

  -- a late table has as many slots as what it is made in
  pub late_long : (v : ℕ) (start : List ℕ) → length (late_table s v start) ≡ length start
  unfolding late_table
  late_long v start = moved_long (edf_at s v start (slots s)) (slots s) ∙ edf_long s v start (slots s)
