-- What the check answers: the list's rows, 43 for a table not of L bytes, 45, then the search.
-- Assumes nothing.
use Rattle.std.specs.Prelude.{ℕ, List, [], ◌∷◌, not, ◌||◌, length, get_or, eqb, ltb, Result, Ok, Err}
use Rattle.std.proofs.Math.Option.{Option, some, none}
use Rattle.basics.specs.Chain.{◌⨾◌, need}
use Rattle.basics.specs.Find.{find}
use Rattle.basics.specs.Limits.{Limits}
use Rattle.basics.specs.Marks.{idle, no_switch}
use Rattle.joblist.specs.Fields.{jobs, slots}
use Rattle.joblist.specs.Answer.{list_answer}
use Rattle.joblist.specs.declared.Why.{Why}
use Rattle.frame.specs.Execution.{Badness, late, early, before}
use Rattle.frame.specs.Search.{Finding, nothing, found, first_fault}
use Rattle.verdict.specs.FrameOf.{frame_of}
use Rattle.verdict.specs.declared.Fault.{Fault}
use Rattle.verdict.specs.declared.Fault.TheVariants.{Late, Early, Before}
use Rattle.verdict.specs.declared.Objection.{Objection}
use Rattle.verdict.specs.declared.Objection.TheVariants.{OfList, Size, Entry, Bad}

-- yes, or what the check objects to
abbrev pub Verdict : Type 0
Verdict = Result Unit Objection

-- the list's answer, as the check's
abbrev pub of_list : Result Unit Why → Verdict
of_list (Ok u) = Ok tt
of_list (Err w) = Err (OfList w)

-- the first entry that is neither idle nor a job
unfoldable pub odd_entry : List ℕ → ℕ → Option ℕ
odd_entry table n = find (λ t. not (ltb (get_or table t idle) n || eqb (get_or table t idle) idle)) (length table) 0

-- 45, with that entry's slot
abbrev pub entry_answer : Option ℕ → Verdict
entry_answer none = Ok tt
entry_answer (some t) = Err (Entry t)

-- the switch slot of a chain of at most one
abbrev pub switch_of : List ℕ → ℕ
switch_of [] = no_switch
switch_of (x ∷ c) = x

-- a fault with its slot, job, predecessor and switch slot
abbrev pub fault_of : ℕ → ℕ → Badness → Fault
fault_of t x (late j) = Late t j x
fault_of t x (early j) = Early t j x
fault_of t x (before j p) = Before t j p x

-- 10, 11, 12: what the search finds
abbrev pub search_answer : Finding → Verdict
search_answer nothing = Ok tt
search_answer (found f) = Err (Bad (fault_of f.slot (switch_of f.chain) f.kind))

-- the two tables of a good list
unfoldable pub tables_answer : List ℕ → List ℕ → List ℕ → Verdict
tables_answer s lo hi =
    need (eqb (length lo) (slots s)) Size
    ⨾ need (eqb (length hi) (slots s)) Size
    ⨾ entry_answer (odd_entry lo (jobs s))
    ⨾ entry_answer (odd_entry hi (jobs s))
    ⨾ search_answer (first_fault (frame_of s lo hi))

-- the whole check
unfoldable pub check_of : Limits → List ℕ → List ℕ → List ℕ → Verdict
check_of lim s lo hi = of_list (list_answer lim s) ⨾ tables_answer s lo hi
