-- Table LO, slot t from 0, out of the late tables TLO and THI.
-- Assumes nothing.
use Rattle.std.specs.Prelude.{ℕ, zero, suc, ◌+◌, List, Bool, cond, not, ◌&&◌, set, leb, ltb, Option, Some, None, Result, Ok, Err}
use Rattle.std.specs.Result.{result_and}
use Rattle.basics.specs.Find.{lowest}
use Rattle.basics.specs.Turns.{turns}
use Rattle.joblist.specs.Fields.{slots, arrival, ordinary}
use Rattle.basics.specs.Marks.{idle}
use Rattle.late.specs.Table.{entry, units, all_idle, held, waits}
use Rattle.late.specs.Late.{tlo, thi}
use Rattle.lotable.specs.declared.Source.{Source}
use Rattle.lotable.specs.declared.Source.TheVariants.{Low, High}
use Rattle.lotable.specs.declared.Clash.{Clash}
use Rattle.lotable.specs.declared.Clash.TheVariants.{BothAt, EarlyAt}

-- how many of l slots are made before a clash
abbrev pub before : ℕ → Result (Unit {0}) Clash → ℕ
before l (Ok x) = l
before l (Err (BothAt t)) = t
before l (Err (EarlyAt t)) = t

-- what is left of the late tables, and table LO as far as it is made
pub record Tables : Type 0 where
  pub low : List ℕ
  pub high : List ℕ
  pub lo : List ℕ

-- where the unit of a slot comes from, or none; or why there is no unit
abbrev pub Pick : Type 0
Pick = Result (Option Source) Clash

-- 22 and 23
abbrev pub clash : Pick → Result (Unit {0}) Clash
clash p = result_and p (Ok tt)

-- a unit taken, from slot k of its late table, is removed there and stands in slot t of table LO
abbrev pub take : Tables → ℕ → Pick → Tables
take p t (Ok (Some (Low k))) =
    record { low = set p.low k idle; high = p.high; lo = set p.lo t (entry p.low k) }
take p t (Ok (Some (High k))) =
    record { low = p.low; high = set p.high k idle; lo = set p.lo t (entry p.high k) }
take p t (Ok None) = record { low = p.low; high = p.high; lo = set p.lo t idle }
take p t (Err e) = p

module _ (s : List ℕ) where
  -- job j has not all its CLO units in table LO before slot t
  unfoldable pub unplaced : List ℕ → ℕ → ℕ → Bool
  unplaced lo t j = ltb (units lo t j) (ordinary s j)

  -- slot k of a late table holds a job that has arrived by t and does not wait
  unfoldable pub fits : (ℕ → Bool) → List ℕ → ℕ → ℕ → Bool
  fits waiting table t k =
      held s table k && (leb (arrival s (entry table k)) t && not (waiting (entry table k)))

  -- neither late table holds a job at t: the lowest later slot of TLO that fits; failing that, the same in THI; failing that, idle
  unfoldable pub later : (ℕ → Bool) → List ℕ → List ℕ → ℕ → Option Source
  later waiting low high t =
      cond (ltb (lowest (fits waiting low t) (slots s) (t + 1)) (slots s)) (Some (Low (lowest (fits waiting low t) (slots s) (t + 1))))
      (cond (ltb (lowest (fits waiting high t) (slots s) (t + 1)) (slots s)) (Some (High (lowest (fits waiting high t) (slots s) (t + 1)))) None)

  -- both late tables hold a job at t: 22. Only THI: that unit. Only TLO: that unit, or 23 if its job waits. Neither: as above
  unfoldable pub pick : (ℕ → Bool) → List ℕ → List ℕ → ℕ → Pick
  pick waiting low high t =
      cond (held s high t) (cond (held s low t) (Err (BothAt t)) (Ok (Some (High t))))
      (cond (held s low t) (cond (waiting (entry low t)) (Err (EarlyAt t)) (Ok (Some (Low t)))) (Ok (later waiting low high t)))

  -- a job waits where a predecessor has not all its CLO units in table LO yet
  abbrev pub pick_at : Tables → ℕ → Pick
  pick_at p t = pick (waits s (unplaced p.lo t)) p.low p.high t

  module _ (start : Tables) where
    -- at the opening of slot t
    unfoldable pub tables_at : ℕ → Tables
    tables_at zero = start
    tables_at (suc t) = take (tables_at t) t (pick_at (tables_at t) t)

    -- the first slot with 22 or 23
    abbrev pub clash_at : ℕ → Result (Unit {0}) Clash
    clash_at t = clash (pick_at (tables_at t) t)

    unfoldable pub clash_in : Result (Unit {0}) Clash
    clash_in = turns result_and (Ok tt) clash_at (slots s) 0

  -- from the late tables, with nothing placed yet
  abbrev pub begins : Tables
  begins = record { low = tlo s; high = thi s; lo = all_idle s }

  unfoldable pub clash_of : Result (Unit {0}) Clash
  clash_of = clash_in begins

  unfoldable pub table_lo : List ℕ
  table_lo = (tables_at begins (slots s)).lo
