-- The execution behind a fault of the check: how many units each job needs.
-- Assumes nothing.
use Rattle.std.specs.Prelude.{ℕ, zero, suc, ◌+◌, List, Bool, not, ◌&&◌, ◌||◌, replicate, set, eqb, leb, Ok, Err}
use Rattle.basics.specs.Choice.{pick}
use Rattle.basics.specs.Limits.{Limits}
use Rattle.basics.specs.Marks.{no_switch}
use Rattle.joblist.specs.Fields.{jobs, ordinary, high}
use Rattle.verdict.specs.Answer.{Verdict, check_of}
use Rattle.verdict.specs.Count.{entry_at, entries_in}
use Rattle.verdict.specs.declared.Fault.{Fault}
use Rattle.verdict.specs.declared.Fault.TheVariants.{Late, Early, Before}
use Rattle.verdict.specs.declared.Objection.TheVariants.{OfList, Size, Entry, Bad}
use Rattle.witness.specs.declared.needs.Witness.{Witness}

-- the switch slot of a fault
abbrev pub switch_in : Fault → ℕ
switch_in (Late t j x) = x
switch_in (Early t j x) = x
switch_in (Before t j p x) = x

-- after the switch at x, job j has all it needs: it is not the job that switched, and had its CLO units
unfoldable pub ended : List ℕ → List ℕ → ℕ → ℕ → Bool
ended s lo x j = not (eqb j (entry_at lo x)) && leb (ordinary s j) (entries_in lo j (x + 1))

-- what job j needs: CLO where no switch was made or it had ended, and CHI otherwise
unfoldable pub need_of : List ℕ → List ℕ → ℕ → ℕ → ℕ
need_of s lo x j = pick (eqb x no_switch || ended s lo x j) (ordinary s j) (high s j)

-- room for k jobs: what each of the first n needs, then zeros
unfoldable pub needs_to : ℕ → List ℕ → List ℕ → ℕ → ℕ → List ℕ
needs_to k s lo x zero = replicate k 0
needs_to k s lo x (suc n) = set (needs_to k s lo x n) n (need_of s lo x n)

-- the needs behind an answer of the check: zeros where it is no fault
abbrev pub needs_behind : Limits → List ℕ → List ℕ → Verdict → List ℕ
needs_behind lim s lo (Ok u) = replicate lim.jobs 0
needs_behind lim s lo (Err (OfList w)) = replicate lim.jobs 0
needs_behind lim s lo (Err Size) = replicate lim.jobs 0
needs_behind lim s lo (Err (Entry t)) = replicate lim.jobs 0
needs_behind lim s lo (Err (Bad f)) = needs_to lim.jobs s lo (switch_in f) (jobs s)

-- an answer of the check with some needs
abbrev pub saying : Verdict → List ℕ → Witness
saying v needs = record { verdict = v; needs = needs }

-- the check's answer, and the needs behind it
unfoldable pub witness_of : Limits → List ℕ → List ℕ → List ℕ → Witness
witness_of lim s lo hi = saying (check_of lim s lo hi) (needs_behind lim s lo (check_of lim s lo hi))
