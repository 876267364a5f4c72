-- Moving late: what the searches find, and that a move keeps each job's number of units.
-- Assumes nothing.
use Rattle.joblist.specs.Accepted.{Accepted}
use Rattle.basics.specs.Limits.{Limits}
use native.Mathlib.Numerals.{add-one}
use Rattle.joblist.specs.Fields.{jobs, slots, deadline}
use Rattle.basics.specs.Find.{find, found_or, lowest, highest}
use Rattle.basics.specs.Marks.{idle}
use lib.Seq.{get_or-set_same}
use lib.ListN.{length, set, length-set}
use borrow.Author.Tests.{ne_eqb, le-leb, leb-true, ltb-true}
use native.Mathlib.Decide.{ℕ_discrete, dec_lt}
use native.Mathlib.Omega.{arith}
use mathlib.Core.Option.{Option, some, none}
use mathlib.Core.Bool.{Bool, true, false, cond}
use mathlib.Core.List.{List}
use mathlib.Core.Path.{◌≡◌, refl, sym, ap, ◌∙◌}
use Prim.Native.Nat.{ℕ, zero, suc, ◌-◌, ◌≤◌, ◌<◌}
use Rattle.basics.proofs.Find.{find_some, find_none}
use Rattle.basics.proofs.Tests.{lie, of_false, not_both}
use Rattle.late.specs.Table.{entry, units, held, empty}
use Rattle.late.specs.Late.{holds_next, target, move, moved}
use Rattle.late.proofs.Units.{units_set}
use Rattle.late.proofs.Moving.{move_held, move_idle, moved_zero, moved_step, moved_long, target_most}

-- what is found is the first that passes
find_first : (f : ℕ → Bool) (k i x y : ℕ) → find f k i ≡ some x → i ≤ y → y < x → f y ≡ false
unfolding find
find_first f zero i x y e h l = let z : ◌≡◌ {A = ℕ} 0 1 = cc in absurd (omega arith)
find_first f (suc k) i x y e h l = go (f i) refl e (λ q m. find_first f k (suc i) x y q m l) (ℕ_discrete i y)
  where
    go : (b : Bool) → f i ≡ b → (elim b [ true ↦ some i | false ↦ find f k (suc i) ]) ≡ some x
        → (find f k (suc i) ≡ some x → suc i ≤ y → f y ≡ false) → Dec (i ≡ y) → f y ≡ false
    go true p q ih d =
        let ix : i ≡ x = cc in
        absurd (omega arith)
    go false p q ih (yes r) = rw (← r) p
    go false p q ih (no r) = ih q (omega arith)

-- the lowest number that passes is past those that do not
pub lowest_above : (f : ℕ → Bool) (n t : ℕ) → t < n → ((x : ℕ) → x ≤ t → f x ≡ false) → t < lowest f n 0
unfolding lowest
lowest_above f n t h miss = go (find f (n - 0) 0) refl
  where
    go : (o : Option ℕ) → find f (n - 0) 0 ≡ o → t < found_or n o
    go none e = h
    go (some x) e = at (dec_lt t x)
      where
        at : Dec (t < x) → t < x
        at (yes p) = p
        at (no p) = absurd (of_false (miss x (omega arith)) (find_some f (n - 0) 0 x e).0)

-- no number below the lowest that passes does
pub lowest_miss : (f : ℕ → Bool) (n y : ℕ) → y < lowest f n 0 → f y ≡ false
unfolding lowest
lowest_miss f n y h = go (find f (n - 0) 0) refl h
  where
    go : (o : Option ℕ) → find f (n - 0) 0 ≡ o → y < found_or n o → f y ≡ false
    go none e l = lie (f y) (find_none f (n - 0) 0 e y (omega arith) (omega arith))
    go (some x) e l = find_first f (n - 0) 0 x y e (omega arith) l

-- the highest number below b that passes is at least t, where t passes, and is below b
pub highest_above : (f : ℕ → Bool) (u b t : ℕ) → t < b → f t ≡ true → t ≤ highest f u b
unfolding highest
highest_above f u zero t h e = absurd (omega arith)
highest_above f u (suc b) t h e = go (ℕ_discrete t b) (f b) refl (λ l. highest_above f u b t l e)
  where
    go : Dec (t ≡ b) → (c : Bool) → f b ≡ c → (t < b → t ≤ highest f u b) → t ≤ cond c b (highest f u b)
    go d true q r = omega arith
    go (yes p) false q r = absurd (not_both (sym (ap f p) ∙ e) q)
    go (no p) false q r = r (omega arith)

-- it passes, or is t
pub highest_passes : (f : ℕ → Bool) (t b : ℕ) → f t ≡ true → f (highest f t b) ≡ true
unfolding highest
highest_passes f t zero e = e
highest_passes f t (suc b) e = go (f b) refl (highest_passes f t b e)
  where
    go : (c : Bool) → f b ≡ c → f (highest f t b) ≡ true → f (cond c b (highest f t b)) ≡ true
    go true q r = q
    go false q r = r

module _ (s : List ℕ) (few : jobs s ≤ 254) where
  -- a slot that was cleared is empty, and so is the slot that a unit goes to
  pub cleared : (table : List ℕ) (t : ℕ) → t < length table → empty s (set table t idle) t ≡ true
  cleared table t h = rw (get_or-set_same table t idle 0 h) (le-leb (jobs s) idle (omega arith))

  pub target_empty : (table : List ℕ) (j t : ℕ) → empty s table t ≡ true → empty s table (target s table j t) ≡ true
  unfolding target
  target_empty table j t e = highest_passes (empty s table) t (lowest (holds_next s table j) (deadline s j) 0) e

  -- moves keep the units of each job
  module _ (lim : Limits) (acc : Accepted lim s) (j : ℕ) (l : j < jobs s) where
    move_keeps : (table : List ℕ) (t : ℕ) → length table ≡ slots s → t < slots s → units (move s table t) (slots s) j ≡ units table (slots s) j
    move_keeps table t long h = go (held s table t) refl
      where
        x : ℕ
        x = target s (set table t idle) (entry table t) t

        go : (b : Bool) → held s table t ≡ b → units (move s table t) (slots s) j ≡ units table (slots s) j
        go false e = rw (move_idle s table t e)
        go true e =
            let n = length-set table t idle in
            let inside = target_most lim s (set table t idle) (entry table t) t acc (ltb-true _ _ e) h in
            let g = leb-true (jobs s) (entry (set table t idle) x) (target_empty (set table t idle) (entry table t) t (cleared table t (omega arith))) in
            let a = rw (ne_eqb idle j (λ q. omega arith)) at (units_set table t idle j (slots s) h (omega arith)) in
            let b = rw (ne_eqb (entry (set table t idle) x) j (λ q. omega arith)) at (units_set (set table t idle) x (entry table t) j (slots s) inside (omega arith)) in
            rw (move_held s table t e) (omega arith)

    pub moved_keeps : (table : List ℕ) (k : ℕ) → length table ≡ slots s → k ≤ slots s → units (moved s table k) (slots s) j ≡ units table (slots s) j
    moved_keeps table zero long h = rw (moved_zero s table)
    moved_keeps table (suc k) long h =
        rw (← add-one k, moved_step s table k)
        (move_keeps (moved s table k) (slots s - 1 - k) (moved_long s table k ∙ long) (omega arith) ∙ moved_keeps table k long (omega arith))
