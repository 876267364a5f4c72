-- Bytes that are cut off by zeros begin no accepted plan, unless a whole one stands before the cut: a plan's last byte is not zero.
-- Assumes nothing.
use Prim.Native.Nat.{ℕ, ◌+◌, ◌-◌, ◌≤◌, ◌<◌}
use mathlib.Core.Path.{◌≡◌, sym, ◌∙◌}
use mathlib.Core.Bool.{true, false}
use mathlib.Core.List.{List, ◌++◌}
use native.Mathlib.Omega.{arith}
use native.Mathlib.Decide.{dec_lt, dec_le}
use lib.ListN.{length, get_or, take, replicate, get_or-append}
use lib.Seq.{length-take-le, take-append-le, take-take, get_or-take, get_or-append-add}
use Rattle.basics.specs.Limits.{Limits}
use Rattle.basics.proofs.At.{get_d_past, zeros_at}
use Rattle.planfile.specs.Round.{AllBytes}
use Rattle.joblist.proofs.Tested.{not_so}
use Rattle.logwalk.specs.Walk.{size_of, bytes_at, plan_at}
use Rattle.logwalk.proofs.Reader.{last}
use Rattle.logwalk.proofs.Here.{size_least, size_front, size_take, taken, plan_size}

-- past the end there are zeros, so that every place has a byte
any_byte : (s : List ℕ) → AllBytes s → (i : ℕ) → get_or s i 0 < 256
any_byte s bytes i = go (dec_lt i (length s))
  where
    go : Dec (i < length s) → get_or s i 0 < 256
    go (yes h) = bytes i h
    go (no h) = rw (get_d_past s i 0 (omega arith)) (omega arith)

-- the first i bytes of u, and zeros behind them
module _ (u : List ℕ) (i m : ℕ) (within : i ≤ length u) where
  abbrev cut : List ℕ
  cut = take i u ++ replicate m 0

  front : length (take i u) ≡ i
  front = length-take-le i u within

  cut_before : (j : ℕ) → j < i → get_or cut j 0 ≡ get_or u j 0
  cut_before j h = get_or-append (take i u) (replicate m 0) 0 j (omega (arith, front)) ∙ get_or-take i u j 0 h

  cut_behind : (j : ℕ) → i ≤ j → get_or cut j 0 ≡ 0
  cut_behind j h =
      let e : j ≡ length (take i u) + (j - i) = omega (arith, front) in
      rw e (get_or-append-add (take i u) (replicate m 0) (j - i) 0 ∙ zeros_at m (j - i))

  cut_byte : AllBytes u → (j : ℕ) → get_or cut j 0 < 256
  cut_byte bytes j = go (dec_lt j i)
    where
      go : Dec (j < i) → get_or cut j 0 < 256
      go (yes h) = rw (cut_before j h) (any_byte u bytes j)
      go (no h) = rw (cut_behind j (omega arith)) (omega arith)

  -- a plan that ends before the cut stands in u too
  cut_old : (lim : Limits) → size_of cut ≤ i → plan_at lim cut 0 ≡ true → (plan_at lim u 0 ≡ true) × (size_of u ≡ size_of cut)
  unfolding plan_at
  cut_old lim h here =
      let l = size_least cut in
      let e : size_of cut ≡ size_of u = size_front (take i u) (replicate m 0) (omega (arith, front)) ∙ size_take i u (omega arith) (omega arith) in
      let b : take (size_of cut) cut ≡ take (size_of cut) u = take-append-le (size_of cut) (take i u) (replicate m 0) (omega (arith, front)) ∙ take-take (size_of cut) i u h in
      (rw (← e, ← b) here, sym e)

  -- a plan that ends behind it ends in a zero
  cut_new : (lim : Limits) → AllBytes u → i < size_of cut → plan_at lim cut 0 ≡ true → ⊥
  cut_new lim bytes h here =
      let n = plan_size lim cut 0 here in
      let z : get_or (bytes_at cut 0) (size_of cut - 1) 0 ≡ 0 = get_or-take (size_of cut) cut (size_of cut - 1) 0 (omega arith) ∙ cut_behind (size_of cut - 1) (omega arith) in
      last lim (bytes_at cut 0) (taken lim cut 0 here) (λ j l. rw (get_or-take (size_of cut) cut j 0 (omega arith)) (cut_byte bytes j)) (rw n z)

  pub cut_off : (lim : Limits) → AllBytes u → (plan_at lim u 0 ≡ true → i < size_of u) → plan_at lim cut 0 ≡ false
  cut_off lim bytes short = sym (not_so _ (λ here. go here (dec_le (size_of cut) i)))
    where
      go : plan_at lim cut 0 ≡ true → Dec (size_of cut ≤ i) → ⊥
      go here (yes h) = let o = cut_old lim h here in omega (arith, short o.0, o.1)
      go here (no h) = cut_new lim bytes (omega arith) here
