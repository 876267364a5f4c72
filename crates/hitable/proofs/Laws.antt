-- Laws of the row, kept as runs, and of table HI.
-- Assumes nothing.
use Prim.Native.Nat.{ℕ, zero, suc, ◌+◌, ◌-◌, ◌≤◌, ◌<◌}
use mathlib.Core.Path.{◌≡◌, refl, sym, ap, ap₂, ◌∙◌}
use mathlib.Core.List.{List, [], ◌∷◌, ◌++◌, append_assoc, append-nil}
use native.Mathlib.Numerals.{add-one}
use native.Mathlib.Omega.{arith}
use lib.ListN.{length, set, replicate, length-set}
use lib.Seq.{get_or-set_same, get_or-set_other}
use borrow.Author.Tests.{lt-ltb, le-ltb, eq-eqb, ne_eqb}
use Rattle.joblist.specs.Fields.{jobs, ordinary, high}
use Rattle.late.specs.Table.{entry, units}
use Rattle.late.proofs.Units.{Counted}
use Rattle.basics.specs.Units.{units_of}
use native.Mathlib.Decide.{dec_lt}
use Rattle.hitable.specs.TableHi.{turn, owing, place, hi_at}
use Rattle.hitable.specs.declared.Run.{Run}
use Rattle.hitable.specs.Runs.{run_at, runs, row_of}

-- runs are the same where each run is
runs_same : (rs rs' : List Run) (h k : ℕ) → ((x : ℕ) → h ≤ x → x < h + k → run_at rs' x ≡ run_at rs x) → runs rs' h k ≡ runs rs h k
unfolding runs
runs_same rs rs' h zero e = refl
runs_same rs rs' h (suc k) e =
    rw (e h (omega arith) (omega arith), runs_same rs rs' (h + 1) k (λ x l r. e x (omega arith) (omega arith)))

runs_set : (rs : List Run) (h k i : ℕ) (v : Run) → ((z : ℕ) → h ≤ z → z < h + k → z ≡ i → ⊥) → runs (set rs i v) h k ≡ runs rs h k
runs_set rs h k i v o = runs_same rs (set rs i v) h k (λ z l r. get_or-set_other rs i z v (record { unit = 0; more = 0 }) (o z l r))

run_set : (rs : List Run) (i : ℕ) (v : Run) → i < length rs → run_at (set rs i v) i ≡ v
run_set rs i v l = get_or-set_same rs i v (record { unit = 0; more = 0 }) l

runs_snoc : (rs : List Run) (h k : ℕ) → runs rs h (suc k) ≡ runs rs h k ++ ((run_at rs (h + k)).unit ∷ replicate (run_at rs (h + k)).more (run_at rs (h + k)).unit)
unfolding runs
runs_snoc rs h zero =
    let e : h + 0 ≡ h = omega arith in
    rw e (ap (λ l. (run_at rs h).unit ∷ l) (append-nil (replicate (run_at rs h).more (run_at rs h).unit)))
runs_snoc rs h (suc k) =
    let e : h + suc k ≡ h + 1 + k = omega arith in
    rw (runs_snoc rs (h + 1) k, e) (ap (λ l. (run_at rs h).unit ∷ l) (sym (append_assoc (replicate (run_at rs h).more (run_at rs h).unit) _ _)))

module _ (rs : List Run) (head tail : ℕ) where
  pub row_back : (x : ℕ) → head ≤ tail → tail < length rs → row_of (set rs tail (record { unit = x; more = 0 })) head (tail + 1) ≡ row_of rs head tail ++ (x ∷ [])
  unfolding row_of
  row_back x h l =
      let v : Run = record { unit = x; more = 0 } in
      let e : tail + 1 - head ≡ suc (tail - head) = omega arith in
      let f : head + (tail - head) ≡ tail = omega arith in
      rw (e, runs_snoc, f, run_set rs tail v l, runs_set rs head (tail - head) tail v (λ z l r p. omega arith))

  pub row_front : (x k : ℕ) → 1 ≤ head → head ≤ tail → tail ≤ length rs → ¬ (k ≡ 0) → row_of (set rs (head - 1) (record { unit = x; more = k - 1 })) (head - 1) tail ≡ replicate k x ++ row_of rs head tail
  unfolding row_of runs
  row_front x k p h l q =
      let v : Run = record { unit = x; more = k - 1 } in
      let e : tail - (head - 1) ≡ suc (tail - head) = omega arith in
      let f : head - 1 + 1 ≡ head = omega arith in
      let g : k ≡ suc (k - 1) = omega arith in
      ap (λ m. runs (set rs (head - 1) v) (head - 1) m) e
      ∙ rw (runs, run_set rs (head - 1) v (omega arith), f, runs_set rs head (tail - head) (head - 1) v (λ z l r p. omega arith))
      (ap (λ m. replicate m x ++ runs rs head (tail - head)) (sym g))

  pub row_last : head < tail → (run_at rs head).more ≡ 0 → row_of rs head tail ≡ (run_at rs head).unit ∷ row_of rs (head + 1) tail
  unfolding row_of runs
  row_last h q =
      let e : tail - head ≡ suc (tail - (head + 1)) = omega arith in
      ap (λ m. runs rs head m) e ∙ rw (runs, q)

  pub row_less : (u k : ℕ) → head < tail → tail ≤ length rs → (run_at rs head).unit ≡ u → (run_at rs head).more ≡ k → (k ≡ 0 → ⊥)
      → row_of rs head tail ≡ u ∷ row_of (set rs head (record { unit = u; more = k - 1 })) head tail
  unfolding row_of runs
  row_less u k h l p q nz =
      let v : Run = record { unit = u; more = k - 1 } in
      let e : tail - head ≡ suc (tail - (head + 1)) = omega arith in
      let g : k ≡ suc (k - 1) = omega arith in
      let left : runs rs head (tail - head) ≡ u ∷ (replicate (suc (k - 1)) u ++ runs rs (head + 1) (tail - (head + 1))) =
      ap (λ m. runs rs head m) e ∙ ap₂ (λ m w. w ∷ (replicate m w ++ runs rs (head + 1) (tail - (head + 1)))) (q ∙ g) p in
      let right : runs (set rs head v) head (tail - head) ≡ u ∷ (replicate (k - 1) u ++ runs rs (head + 1) (tail - (head + 1))) =
      ap (λ m. runs (set rs head v) head m) e
      ∙ rw (runs, run_set rs head v (omega arith), runs_set rs (head + 1) (tail - (head + 1)) head v (λ z l r p. omega arith)) in
      left ∙ sym (ap (λ l. u ∷ l) right)

  pub row_empty : tail ≤ head → row_of rs head tail ≡ []
  unfolding row_of runs
  row_empty h = ap (λ m. runs rs head m) (let e : tail - head ≡ 0 = omega arith in e)

module _ (s : List ℕ) (u k : ℕ) (row : List ℕ) where
  pub owing_more : u < jobs s → k ≡ ordinary s u → owing s u k row ≡ replicate (high s u - ordinary s u) u ++ row
  unfolding owing
  owing_more h e = rw (lt-ltb u (jobs s) h, eq-eqb k (ordinary s u) e)

  pub owing_not : u < jobs s → ¬ (k ≡ ordinary s u) → owing s u k row ≡ row
  unfolding owing
  owing_not h e = rw (lt-ltb u (jobs s) h, ne_eqb k (ordinary s u) e)

  pub owing_idle : jobs s ≤ u → owing s u k row ≡ row
  unfolding owing
  owing_idle h = rw (le-ltb u (jobs s) h)

-- the units counted
pub owing_counted : (s had table : List ℕ) (t u : ℕ) (row : List ℕ) → Counted (jobs s) had table t → owing s u (units_of had u) row ≡ owing s u (units table t u) row
owing_counted s had table t u row c = go (dec_lt u (jobs s))
  where
    go : Dec (u < jobs s) → owing s u (units_of had u) row ≡ owing s u (units table t u) row
    go (yes h) = ap (λ k. owing s u k row) (c.count u h)
    go (no h) = owing_idle s u (units_of had u) row (omega arith) ∙ sym (owing_idle s u (units table t u) row (omega arith))

module _ (s lo thi start : List ℕ) where
  pub hi_zero : hi_at s lo thi start 0 ≡ record { row = []; table = start }
  unfolding hi_at
  hi_zero = refl

  pub hi_step : (t : ℕ) → hi_at s lo thi start (t + 1) ≡ place s (hi_at s lo thi start t).table t (turn s (entry lo t) (entry thi t) (hi_at s lo thi start t).row)
  unfolding hi_at
  hi_step t = ap (hi_at s lo thi start) (add-one t)

  -- the unit u of slot t, the row that its turn leaves, and the row with what it is owed further
  pub hi_next : (t : ℕ) (row table : List ℕ) → hi_at s lo thi start t ≡ record { row = row; table = table } → (u : ℕ) (left next : List ℕ)
      → u ≡ (turn s (entry lo t) (entry thi t) row).unit → left ≡ (turn s (entry lo t) (entry thi t) row).row
      → next ≡ owing s u (units (set table t u) (t + 1) u) left → hi_at s lo thi start (t + 1) ≡ record { row = next; table = set table t u }
  hi_next t row table e u left next p q r = hi_step t ∙ rw (e, ← p, ← q, ← r)

  -- table HI has as many slots as what it is made in
  pub hi_long : (t : ℕ) → length (hi_at s lo thi start t).table ≡ length start
  unfolding hi_at
  hi_long zero = refl
  hi_long (suc t) = length-set (hi_at s lo thi start t).table t _ ∙ hi_long t
