-- Every entry of the built tables is a job or idle.
-- Assumes nothing.
use Rattle.joblist.specs.Fields.{jobs, slots, deadline, ordinary, high}
use Rattle.basics.specs.Marks.{idle}
use lib.Dec.{eqb, ltb}
use lib.Seq.{get_or-set_same, get_or-set_other, set_out}
use lib.ListN.{length, get_or, set, replicate}
use native.Mathlib.Decide.{ℕ_discrete, dec_lt}
use native.Mathlib.Omega.{arith}
use mathlib.Core.Bool.{Bool, true, false, cond, ◌&&◌}
use mathlib.Core.List.{List, [], ◌∷◌, ◌++◌}
use mathlib.Core.Logic.{◌⊎◌, inl, inr}
use mathlib.Core.Path.{◌≡◌, refl}
use Prim.Native.Nat.{ℕ, zero, suc, ◌+◌, ◌-◌, ◌≤◌, ◌<◌}
use Rattle.basics.proofs.Choice.{earliest_is}
use Rattle.verdict.specs.Demand.{GoodTable}
use Rattle.late.specs.Table.{entry, units, all_idle, held}
use Rattle.late.specs.Late.{ready, unfinished, chosen, edf_at, target, move, moved, late_table, first_unit, first_units, tlo, thi}
use Rattle.std.specs.Prelude.{Some, None, Ok as Taken, Err}
use Rattle.lotable.specs.declared.Source.TheVariants.{Low, High}
use Rattle.lotable.specs.TableLo.{Pick, take, Tables, pick_at, tables_at, begins, table_lo}
use Rattle.hitable.specs.TableHi.{Turn, front, Hi, is_high, turn, owing, place, hi_at, table_hi}
use Rattle.merge.specs.Build.{built_lo, built_hi}
use Rattle.merge.proofs.Laws.{built_lo_long, built_hi_long}

module _ (s : List ℕ) (few : jobs s ≤ 254) (one : 1 ≤ jobs s) where
  -- a job, or idle
  abbrev Ok : ℕ → Type 0
  Ok x = (x < jobs s) ⊎ (x ≡ idle)

  abbrev Oks : List ℕ → Type 0
  Oks table = (x : ℕ) → Ok (entry table x)

  ok_if : (b : Bool) (x y : ℕ) → Ok x → Ok y → Ok (cond b x y)
  ok_if true x y p q = p
  ok_if false x y p q = q

  oks_if : (b : Bool) (x y : List ℕ) → Oks x → Oks y → Oks (cond b x y)
  oks_if true x y p q = p
  oks_if false x y p q = q

  ok_set : (table : List ℕ) (k v : ℕ) → Oks table → Ok v → Oks (set table k v)
  ok_set table k v h o x = go (ℕ_discrete x k) (dec_lt k (length table))
    where
      go : Dec (x ≡ k) → Dec (k < length table) → Ok (entry (set table k v) x)
      go (no p) d = rw (get_or-set_other table k x v 0 p) (h x)
      go (yes p) (yes l) = rw (p, get_or-set_same table k v 0 l) o
      go (yes p) (no l) = rw (set_out table k v (omega arith)) (h x)

  ok_idle : (l : ℕ) → Oks (replicate l idle)
  ok_idle zero x = inl one
  ok_idle (suc l) zero = inr refl
  ok_idle (suc l) (suc x) = ok_idle l x

  -- late tables
  ok_chosen : (v t : ℕ) (table : List ℕ) → Ok (chosen s v table t)
  unfolding chosen
  ok_chosen v t table =
      elim (earliest_is (ready s (unfinished s v table t) t) (deadline s) (jobs s) (omega arith)) [ inl c ↦ inr c.0 | inr c ↦ inl c.below ]

  ok_edf : (v : ℕ) (start : List ℕ) (t : ℕ) → Oks start → Oks (edf_at s v start t)
  unfolding edf_at
  ok_edf v start zero h = h
  ok_edf v start (suc t) h = ok_set (edf_at s v start t) t (chosen s v (edf_at s v start t) t) (ok_edf v start t h) (ok_chosen v t (edf_at s v start t))

  ok_move : (table : List ℕ) (t : ℕ) → Oks table → Oks (move s table t)
  unfolding move
  ok_move table t h =
      oks_if (held s table t) _ table (ok_set (set table t idle) (target s (set table t idle) (entry table t) t) (entry table t) (ok_set table t idle h (inr refl)) (h t)) h

  ok_moved : (table : List ℕ) (k : ℕ) → Oks table → Oks (moved s table k)
  unfolding moved
  ok_moved table zero h = h
  ok_moved table (suc k) h = ok_move (moved s table k) (slots s - 1 - k) (ok_moved table k h)

  ok_late : (v : ℕ) → Oks (late_table s v (all_idle s))
  unfolding late_table
  ok_late v = ok_moved (edf_at s v (all_idle s) (slots s)) (slots s) (ok_edf v (all_idle s) (slots s) (ok_idle (slots s)))

  ok_first : (table : List ℕ) (t : ℕ) → Oks table → Oks (first_units s table t)
  unfolding first_units first_unit
  ok_first table zero h = h
  ok_first table (suc t) h = ok_set (first_units s table t) t (first_unit s table t) (ok_first table t h)
      (ok_if (held s table t && ltb (units table t (entry table t)) (ordinary s (entry table t))) (entry table t) idle (h t) (inr refl))

  -- table LO
  record Three (p : Tables) : Type 0 where
    lows : Oks p.low
    highs : Oks p.high
    los : Oks p.lo

  ok_take : (p : Tables) (t : ℕ) (k : Pick) → Three p → Three (take p t k)
  ok_take p t (Taken (Some (Low k))) h = record { lows = ok_set p.low k idle h.lows (inr refl); highs = h.highs; los = ok_set p.lo t (entry p.low k) h.los (h.lows k) }
  ok_take p t (Taken (Some (High k))) h = record { lows = h.lows; highs = ok_set p.high k idle h.highs (inr refl); los = ok_set p.lo t (entry p.high k) h.los (h.highs k) }
  ok_take p t (Taken None) h = record { lows = h.lows; highs = h.highs; los = ok_set p.lo t idle h.los (inr refl) }
  ok_take p t (Err e) h = h

  ok_tables : (t : ℕ) → Three (tables_at s (begins s) t)
  unfolding tables_at tlo thi
  ok_tables zero = record { lows = ok_late 0; highs = ok_first (late_table s 1 (all_idle s)) (slots s) (ok_late 1); los = ok_idle (slots s) }
  ok_tables (suc t) = ok_take (tables_at s (begins s) t) t (pick_at s (tables_at s (begins s) t) t) (ok_tables t)

  -- table HI: the row holds such units too
  abbrev Row : List ℕ → Type 0
  Row [] = Unit {0}
  Row (x ∷ row) = Ok x × Row row

  row_join : (a b : List ℕ) → Row a → Row b → Row (a ++ b)
  row_join [] b p q = q
  row_join (x ∷ a) b p q = (p.0, row_join a b p.1 q)

  row_many : (k x : ℕ) → Ok x → Row (replicate k x)
  row_many zero x o = tt
  row_many (suc k) x o = (o, row_many k x o)

  abbrev OkTurn : Turn → Type 0
  OkTurn p = Ok p.unit × Row p.row

  turn_if : (b : Bool) (x y : Turn) → OkTurn x → OkTurn y → OkTurn (cond b x y)
  turn_if true x y p q = p
  turn_if false x y p q = q

  row_if : (b : Bool) (x y : List ℕ) → Row x → Row y → Row (cond b x y)
  row_if true x y p q = p
  row_if false x y p q = q

  ok_front : (row : List ℕ) (x : ℕ) → Row row → Ok x → OkTurn (front row x)
  ok_front [] x r o = (o, tt)
  ok_front (u ∷ row) x r o = (r.0, r.1)

  ok_turn : (x y : ℕ) (row : List ℕ) → Row row → Ok x → OkTurn (turn s x y row)
  unfolding turn
  ok_turn x y row r o =
      turn_if (is_high s x) _ _ (turn_if (eqb y x) _ _ (o, r) (ok_front (row ++ (x ∷ [])) x (row_join row (x ∷ []) r (o, tt)) o)) (ok_front row x r o)

  ok_owing : (u k : ℕ) (row : List ℕ) → Ok u → Row row → Row (owing s u k row)
  unfolding owing
  ok_owing u k row o r = row_if (ltb u (jobs s) && eqb k (ordinary s u)) (replicate (high s u - ordinary s u) u ++ row) row (row_join (replicate (high s u - ordinary s u) u) row (row_many (high s u - ordinary s u) u o) r) r

  record Going (p : Hi) : Type 0 where
    rows : Row p.row
    tables : Oks p.table

  ok_place : (table : List ℕ) (t : ℕ) (p : Turn) → Oks table → OkTurn p → Going (place s table t p)
  ok_place table t p h o =
      record { rows = ok_owing p.unit (units (set table t p.unit) (t + 1) p.unit) p.row o.0 o.1; tables = ok_set table t p.unit h o.0 }

  ok_hi : (lo thi start : List ℕ) → Oks lo → Oks start → (t : ℕ) → Going (hi_at s lo thi start t)
  unfolding hi_at
  ok_hi lo thi start a h zero = record { rows = tt; tables = h }
  ok_hi lo thi start a h (suc t) =
      let g = ok_hi lo thi start a h t in
      ok_place (hi_at s lo thi start t).table t (turn s (entry lo t) (entry thi t) (hi_at s lo thi start t).row) g.tables
      (ok_turn (entry lo t) (entry thi t) (hi_at s lo thi start t).row g.rows (a t))

  any_default : (table : List ℕ) (t a b : ℕ) → t < length table → get_or table t a ≡ get_or table t b
  any_default [] t a b h = absurd (omega arith)
  any_default (x ∷ table) zero a b h = refl
  any_default (x ∷ table) (suc t) a b h = any_default table t a b (omega arith)

  good : (table : List ℕ) → length table ≡ slots s → Oks table → GoodTable s table
  good table n h = record { size = n; entry = λ t l. rw (any_default table t idle 0 l) (h t) }

  ok_lo : Oks (built_lo s)
  unfolding table_lo
  ok_lo = (ok_tables (slots s)).los

  pub good_lo : GoodTable s (built_lo s)
  good_lo = good (built_lo s) (built_lo_long s) ok_lo

  pub good_hi : GoodTable s (built_hi s)
  unfolding built_hi table_hi
  good_hi = good (built_hi s) (built_hi_long s) (ok_hi (table_lo s) (thi s) (all_idle s) ok_lo (ok_idle (slots s)) (slots s)).tables
