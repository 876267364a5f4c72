-- Lists in bytes: the examples of document 000, and the smallest lists known for 20 to 24.
-- Assumes nothing.
use Rattle.std.specs.Prelude.{ℕ, List, [], ◌∷◌, ◌++◌}
use Rattle.basics.specs.Marks.{idle}

-- the head of a list, and a job (a, d, level, CLO, CHI), of numbers below 256
abbrev pub head : ℕ → ℕ → ℕ → List ℕ
head n m l = n ∷ 0 ∷ m ∷ 0 ∷ l ∷ 0 ∷ 0 ∷ 0 ∷ []

abbrev pub job : ℕ → ℕ → ℕ → ℕ → ℕ → List ℕ
job a d v lo hi = a ∷ 0 ∷ d ∷ 0 ∷ lo ∷ 0 ∷ hi ∷ 0 ∷ v ∷ 0 ∷ []

abbrev pub low : ℕ
low = 0

abbrev pub high : ℕ
high = 1

-- Examples 2 and 3 of document 000; its Example 1 is P5
abbrev pub example2 : List ℕ
example2 =
    head 6 0 14 ++ job 0 14 high 1 8 ++ job 0 3 low 1 1 ++ job 0 8 low 2 2 ++ job 0 8 low 2 2 ++ job 8 13 high 2 3 ++ job 0 12 high 2 3

abbrev pub example3 : List ℕ
example3 = head 5 0 8 ++ job 1 8 high 1 2 ++ job 1 6 high 1 2 ++ job 2 4 high 1 2 ++ job 0 4 low 1 1 ++ job 0 4 low 2 2

-- the jobs of its figures 4 to 6
abbrev pub figures : List ℕ
figures = head 3 0 16 ++ job 0 16 high 2 6 ++ job 2 11 high 2 4 ++ job 5 10 high 2 2

-- the smallest lists known for 20, 21, 22, 23 and 24
abbrev pub small20 : List ℕ
small20 = head 1 0 1 ++ job 0 1 low 2 2

abbrev pub small21 : List ℕ
small21 = head 1 0 1 ++ job 0 1 high 1 2

abbrev pub small22 : List ℕ
small22 = head 2 0 1 ++ job 0 1 low 1 1 ++ job 0 1 high 1 1

abbrev pub small23 : List ℕ
small23 = head 2 1 2 ++ job 0 1 low 1 1 ++ job 0 2 high 1 1 ++ 1 ∷ 0 ∷ []

abbrev pub small24 : List ℕ
small24 = head 2 0 5 ++ job 1 3 high 1 1 ++ job 0 5 high 1 3

-- 20 and 21 at once, and a unit that joins the row while another stands where THI first had it
abbrev pub both_late : List ℕ
both_late = head 2 0 1 ++ job 0 1 low 2 2 ++ job 0 1 high 1 2

abbrev pub stands : List ℕ
stands = head 2 0 3 ++ job 0 3 high 1 2 ++ job 1 2 high 1 1

-- job 0 before job 1, both of level v: job 1 has the earlier deadline; and two high jobs that need more after a switch
abbrev pub chained : ℕ → List ℕ
chained v = head 2 1 4 ++ job 0 4 v 1 1 ++ job 0 3 v 1 1 ++ 0 ∷ 1 ∷ []

abbrev pub cut : List ℕ
cut = head 2 1 5 ++ job 0 5 high 1 2 ++ job 0 5 high 1 2 ++ 0 ∷ 1 ∷ []

-- idle in a table
abbrev pub i : ℕ
i = idle
