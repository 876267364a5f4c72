-- The bytes of a plan: the list, table LO, table HI and the trailer; and where its parts stand.
-- Assumes nothing.
use Rattle.std.specs.Prelude.{ℕ, ◌+◌, ◌*◌, List, [], ◌∷◌, ◌++◌, cond, length, take, drop, leb}
use Rattle.basics.specs.Bytes.{le4}
use Rattle.basics.specs.Limits.{Limits}
use Rattle.joblist.specs.Fields.{head_bytes, list_bytes, jobs, edges, slots}

-- the mark that ends a plan of the first edition
abbrev pub mark : List ℕ
mark = 0x54 ∷ 0x54 ∷ 0x50 ∷ 0x31 ∷ []

-- the bytes of the trailer
abbrev pub trailer_bytes : ℕ
trailer_bytes = 8

-- the trailer: the distance back to the plan's first byte, in 32 bits, and the mark
abbrev pub trailer : ℕ → List ℕ
trailer back = le4 back ++ mark

-- the plan of a list and two tables
unfoldable pub plan_of : List ℕ → List ℕ → List ℕ → List ℕ
plan_of list lo hi = list ++ lo ++ hi ++ trailer (length list + length lo + length hi)

-- the length of a plan of n jobs, m edges and l slots: 16 + 10n + 2m + 2l
abbrev pub plan_bytes : ℕ → ℕ → ℕ → ℕ
plan_bytes n m l = list_bytes n m + 2 * l + trailer_bytes

-- no plan is shorter
abbrev pub least_bytes : ℕ
least_bytes = head_bytes + trailer_bytes

-- no plan that keeps to the limits is longer
abbrev pub most_bytes : Limits → ℕ
most_bytes lim = plan_bytes lim.jobs lim.edges lim.slots

-- where table LO begins: after the list
abbrev pub low_at : List ℕ → ℕ
low_at s = list_bytes (jobs s) (edges s)

-- k bytes from `at` on, as many of them as are there; of fewer bytes than any plan has, none
unfoldable pub part_of : List ℕ → ℕ → ℕ → List ℕ
part_of s at k = cond (leb least_bytes (length s)) (take k (drop at s)) []

-- the parts of a plan, as its counts say: the list, table LO, table HI
abbrev pub list_of : List ℕ → List ℕ
list_of s = part_of s 0 (low_at s)

abbrev pub low_of : List ℕ → List ℕ
low_of s = part_of s (low_at s) (slots s)

abbrev pub high_of : List ℕ → List ℕ
high_of s = part_of s (low_at s + slots s) (slots s)
