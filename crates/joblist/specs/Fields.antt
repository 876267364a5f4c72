-- The fields of a job list, where they stand in its bytes.
-- Assumes nothing.
use Rattle.std.specs.Prelude.{ℕ, ◌+◌, ◌*◌, Bool, ◌&&◌, List, get_or, eqb}
use Rattle.basics.specs.Below.{any_below}
use Rattle.basics.specs.Bytes.{u16_at}

-- the bytes of the head, of a job, and of an edge
abbrev pub head_bytes : ℕ
head_bytes = 8

abbrev pub job_bytes : ℕ
job_bytes = 10

abbrev pub edge_bytes : ℕ
edge_bytes = 2

-- where job j begins
abbrev pub job_at : ℕ → ℕ
job_at j = head_bytes + job_bytes * j

-- where edge e begins, after n jobs
abbrev pub edge_at : ℕ → ℕ → ℕ
edge_at n e = job_at n + edge_bytes * e

-- the length of a list of n jobs and m edges
abbrev pub list_bytes : ℕ → ℕ → ℕ
list_bytes n m = edge_at n m

-- the head: job count n, edge count m, frame length L, and a zero
abbrev pub jobs : List ℕ → ℕ
jobs s = u16_at s 0

abbrev pub edges : List ℕ → ℕ
edges s = u16_at s 2

abbrev pub slots : List ℕ → ℕ
slots s = u16_at s 4

abbrev pub head_zero : List ℕ → ℕ
head_zero s = u16_at s 6

-- of job j: arrival, deadline, ordinary budget CLO, high budget CHI, level, and a zero byte
abbrev pub arrival : List ℕ → ℕ → ℕ
arrival s j = u16_at s (job_at j)

abbrev pub deadline : List ℕ → ℕ → ℕ
deadline s j = u16_at s (job_at j + 2)

abbrev pub ordinary : List ℕ → ℕ → ℕ
ordinary s j = u16_at s (job_at j + 4)

abbrev pub high : List ℕ → ℕ → ℕ
high s j = u16_at s (job_at j + 6)

abbrev pub level : List ℕ → ℕ → ℕ
level s j = get_or s (job_at j + 8) 0

abbrev pub job_zero : List ℕ → ℕ → ℕ
job_zero s j = get_or s (job_at j + 9) 0

-- of edge e, after n jobs: the job that ends first, and the job that begins then
abbrev pub edge_from : List ℕ → ℕ → ℕ → ℕ
edge_from s n e = get_or s (edge_at n e) 0

abbrev pub edge_to : List ℕ → ℕ → ℕ → ℕ
edge_to s n e = get_or s (edge_at n e + 1) 0

-- whether one of the m edges after n jobs goes from p to q
unfoldable pub edge_in : List ℕ → ℕ → ℕ → ℕ → ℕ → Bool
edge_in s n m p q = any_below (λ e. eqb (edge_from s n e) p && eqb (edge_to s n e) q) m
