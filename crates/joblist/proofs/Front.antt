-- A list at the front of longer bytes is answered as the list alone.
-- Assumes nothing.
use Prim.Native.Nat.{ℕ, zero, suc, ◌+◌, ◌*◌, ◌-◌, ◌≤◌, ◌<◌, max}
use mathlib.Core.Path.{◌≡◌, refl, sym, ap, ap₂, ◌∙◌}
use mathlib.Core.List.{List, ◌++◌}
use mathlib.Core.Bool.{Bool, true, false, not, ◌&&◌}
use native.Mathlib.Omega.{arith}
use native.Mathlib.Decide.{ℕ_discrete}
use borrow.Author.Tests.{le-leb, eq-eqb, ne_eqb}
use lib.ListN.{length, get_or, length-append, get_or-append}
use lib.Dec.{leb, eqb}
use Rattle.basics.specs.Bytes.{u16_at}
use Rattle.basics.specs.Limits.{Limits}
use Rattle.basics.proofs.Below.{any_same}
use Rattle.joblist.specs.Fields.{head_bytes, list_bytes, jobs, edges, slots, head_zero, high, level, edge_from, edge_to}
use Rattle.joblist.specs.Cycle.{walk, cyclic}
use Rattle.basics.specs.Chain.{◌⨾◌, need}
use Rattle.joblist.specs.Answer.{counts_answer, zero_answer, job_answer, good_pair, edge_answer, rising, largest, body_answer, front_answer, list_answer}
use Rattle.std.specs.Prelude.{Result, Ok, Err}
use Rattle.joblist.specs.declared.Why.{Why}
use Rattle.joblist.specs.declared.Why.TheVariants.{Pair, LowToHigh, Slots, Cycle}
use Rattle.basics.proofs.Chain.{each_same}
use Rattle.joblist.proofs.Rows.{counts_good}
use Rattle.joblist.proofs.Tested.{pair_so}

-- s and t have the same first bytes, as many as n jobs and m edges need
module _ (s t : List ℕ) (n m : ℕ) (same : (i : ℕ) → i < list_bytes n m → get_or s i 0 ≡ get_or t i 0) where
  two : (i : ℕ) → i + 1 < list_bytes n m → u16_at s i ≡ u16_at t i
  unfolding u16_at
  two i h = ap₂ (λ a b. a + 256 * b) (same i (omega arith)) (same (i + 1) h)

  from_same : (e : ℕ) → e < m → edge_from s n e ≡ edge_from t n e
  from_same e h = same _ (omega arith)

  to_same : (e : ℕ) → e < m → edge_to s n e ≡ edge_to t n e
  to_same e h = same _ (omega arith)

  level_same : (j : ℕ) → j < n → level s j ≡ level t j
  level_same j h = same _ (omega arith)

  zero_same : (j : ℕ) → j < n → zero_answer s j ≡ zero_answer t j
  zero_same j h = rw (same (8 + 10 * j + 9) (omega arith))

  job_same : (lim : Limits) (j : ℕ) → j < n → job_answer lim (high s) s j ≡ job_answer lim (high t) t j
  job_same lim j h =
      let a = level_same j h in
      let b = two (8 + 10 * j) (omega arith) in
      let c = two (8 + 10 * j + 2) (omega arith) in
      let d = two (8 + 10 * j + 4) (omega arith) in
      let e = two (8 + 10 * j + 6) (omega arith) in
      cc

  largest_same : (k : ℕ) → k ≤ n → largest s k ≡ largest t k
  unfolding largest
  largest_same zero h = refl
  largest_same (suc k) h = ap₂ max (largest_same k (omega arith)) (two (8 + 10 * k + 2) (omega arith))

  rising_same : (e : ℕ) → e < m → rising s n e ≡ rising t n e
  unfolding rising
  rising_same e h = rw (from_same e h, to_same e h, from_same (e - 1) (omega arith), to_same (e - 1) (omega arith))

  edge_same : (e : ℕ) → e < m → edge_answer s n e ≡ edge_answer t n e
  edge_same e h =
      rw (from_same e h, to_same e h, rising_same e h) (go (good_pair n (edge_from t n e) (edge_to t n e) (rising t n e)) refl)
    where
      go : (b : Bool) → good_pair n (edge_from t n e) (edge_to t n e) (rising t n e) ≡ b
          → need b (Pair e) ⨾ need (leb (level s (edge_to t n e)) (level s (edge_from t n e))) (LowToHigh e) ≡ need b (Pair e) ⨾ need (leb (level t (edge_to t n e)) (level t (edge_from t n e))) (LowToHigh e)
      go false p = refl
      go true p =
          let g = pair_so n _ _ _ p in
          rw (level_same (edge_to t n e) g.1, level_same (edge_from t n e) g.0)

  walk_same : (k j : ℕ) → walk s n m k j ≡ walk t n m k j
  unfolding walk
  walk_same zero j = refl
  walk_same (suc k) j =
      any_same _ _ m (λ e h. ap₂ (λ x y. eqb x j && y) (to_same e h) (ap (walk s n m k) (from_same e h) ∙ walk_same k (edge_from t n e)))

  cyclic_same : cyclic s n m ≡ cyclic t n m
  unfolding cyclic
  cyclic_same = any_same _ _ n (λ j h. walk_same n j)

  pub body_same : (lim : Limits) → body_answer lim (high s) s n m ≡ body_answer lim (high t) t n m
  unfolding body_answer
  body_same lim =
      ap₂ ◌⨾◌ (each_same _ _ n zero_same)
      (ap₂ ◌⨾◌ (each_same _ _ n (job_same lim))
      (ap₂ ◌⨾◌ (ap₂ (λ x y. need (eqb x y) Slots) (two 4 (omega arith)) (largest_same n (omega arith)))
      (ap₂ ◌⨾◌ (each_same _ _ m edge_same)
      (ap (λ x. need (not x) Cycle) cyclic_same))))

-- 16 bits in the first of two lists
pub u16_front : (t u : List ℕ) (i : ℕ) → i + 1 < length t → u16_at (t ++ u) i ≡ u16_at t i
unfolding u16_at
u16_front t u i h =
    ap₂ (λ a b. a + 256 * b) (get_or-append t u 0 i (omega arith)) (get_or-append t u 0 (i + 1) h)

-- more bytes after both lengths change no test of them
eqb_more : (a b k : ℕ) → eqb (a + k) (b + k) ≡ eqb a b
eqb_more a b k = go (ℕ_discrete a b)
  where
    go : Dec (a ≡ b) → eqb (a + k) (b + k) ≡ eqb a b
    go (yes p) = eq-eqb (a + k) (b + k) (omega arith) ∙ sym (eq-eqb a b p)
    go (no p) = ne_eqb (a + k) (b + k) (λ z. p (omega arith)) ∙ sym (ne_eqb a b p)

-- the list t, with u after it: the rows from 1 to 9 answer as for t alone
pub list_front : (lim : Limits) (t u : List ℕ) → head_bytes ≤ length t → front_answer lim (high (t ++ u)) (t ++ u) (list_bytes (jobs t) (edges t) + length u) ≡ list_answer lim t
unfolding front_answer list_answer counts_answer
list_front lim t u h =
    rw (le-leb head_bytes (length t) h, u16_front t u 0 (omega arith), u16_front t u 2 (omega arith), u16_front t u 4 (omega arith), u16_front t u 6 (omega arith), length-append t u, eqb_more)
    (go (counts_answer lim (length t) (list_bytes (jobs t) (edges t)) (jobs t) (edges t) (slots t) (head_zero t)) refl)
  where
    go : (a : Result Unit Why) → counts_answer lim (length t) (list_bytes (jobs t) (edges t)) (jobs t) (edges t) (slots t) (head_zero t) ≡ a
        → a ⨾ body_answer lim (high (t ++ u)) (t ++ u) (jobs t) (edges t) ≡ a ⨾ body_answer lim (high t) t (jobs t) (edges t)
    go (Err w) p = refl
    go (Ok y) p =
        let g : length t ≡ list_bytes (jobs t) (edges t) = (counts_good lim (length t) (list_bytes (jobs t) (edges t)) (jobs t) (edges t) (slots t) (head_zero t) p).given in
        body_same (t ++ u) t (jobs t) (edges t) (λ i l. get_or-append t u 0 i (omega arith)) lim
