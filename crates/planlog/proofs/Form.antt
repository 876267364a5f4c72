-- The store that an append leaves, cut or not, as the old plans and the bytes behind them; and its writes one by one.
-- Assumes nothing.
use Prim.Native.Nat.{ℕ, suc, ◌+◌, ◌-◌, ◌≤◌, ◌<◌}
use mathlib.Core.Path.{◌≡◌, refl, sym, ap, ◌∙◌}
use mathlib.Core.List.{List, ◌++◌}
use native.Mathlib.Omega.{arith}
use native.Mathlib.Decide.{dec_lt}
use lib.ListN.{length, take, replicate}
use lib.Seq.{take_all, take-length, take-append-le, take-append-add}
use Rattle.std.specs.Prelude.{Some, None, Ok}
use Rattle.basics.specs.Limits.{Limits}
use Rattle.logwalk.specs.Walk.{last_end}
use Rattle.planlog.specs.Writes.{zeros, copies, writes_at, writes_of, nth_write, written, after, store_after}
use Rattle.planlog.specs.Answer.{append_of, cut_store, appended_store}
use Rattle.planlog.specs.Cut.{Next, OneByOne}
use Rattle.planlog.specs.declared.Write.{Write}
use Rattle.planlog.proofs.Writes.{zeros_length, writes_length, after_none, after_some, after_append, after_length, copies_form, nth_listed, nth_zero, nth_byte, nth_past}
use Rattle.planlog.proofs.Rows.{Fits, append_yes, cut_writes, cut_whole}
use Rattle.planlog.proofs.Behind.{front, rest, front_length, zeroed}

-- an append with room for the plan
module _ (lim : Limits) (s plan : List ℕ) (room : last_end lim s + length plan ≤ length s) where
  pub total : length (writes_of lim s plan) ≡ length s - last_end lim s + length plan
  unfolding writes_of
  total = writes_length (length s) (last_end lim s) plan

  pub same_size : (k : ℕ) → length (store_after lim s plan k) ≡ length s
  unfolding store_after
  same_size k = after_length s _

  -- the store that j bytes of the plan leave, after all zeros
  pub planned : (j : ℕ) → j ≤ length plan → store_after lim s plan (length s - last_end lim s + j) ≡ front lim s ++ (take j plan ++ replicate (length s - last_end lim s - j) 0)
  unfolding store_after writes_of writes_at
  planned j h =
      let n = length s - last_end lim s in
      let zs = zeros (last_end lim s) n in
      let a : after s zs ≡ front lim s ++ replicate n 0 = rw (take_all n zs (omega (arith, zeros_length (last_end lim s) n)), (let z : n - n ≡ 0 = omega arith in z)) at (zeroed lim s n (omega arith)) in
      let t = rw (zeros_length (last_end lim s) n) at (take-append-add zs (copies (last_end lim s) plan) j) in
      rw (t, after_append s zs (take j (copies (last_end lim s) plan)), a)
      (rw (front_length lim s) at (copies_form (front lim s) plan n j h (omega arith)))

  pub started : (k : ℕ) → k ≤ length s - last_end lim s → store_after lim s plan k ≡ front lim s ++ (take (length s - last_end lim s - k) (rest lim s) ++ replicate k 0)
  unfolding store_after writes_of writes_at
  started k h =
      let zs = zeros (last_end lim s) (length s - last_end lim s) in
      rw (take-append-le k zs (copies (last_end lim s) plan) (omega (arith, zeros_length (last_end lim s) (length s - last_end lim s)))) (zeroed lim s k h)

  form : after s (writes_of lim s plan) ≡ front lim s ++ (plan ++ replicate (length s - (last_end lim s + length plan)) 0)
  unfolding store_after
  form =
      let n = length s - last_end lim s in
      let t : take (n + length plan) (writes_of lim s plan) ≡ writes_of lim s plan = take_all (n + length plan) (writes_of lim s plan) (omega (arith, total)) in
      let m : n - length plan ≡ length s - (last_end lim s + length plan) = omega arith in
      rw (t, take-length plan, m) at (planned (length plan) (omega arith))

-- the store at exit of an append that says yes
pub made : (lim : Limits) (s plan : List ℕ) (x k : ℕ) → append_of lim s plan ≡ Ok x → (cut_store lim s plan k ≡ store_after lim s plan k) × (appended_store lim s plan ≡ after s (writes_of lim s plan))
unfolding cut_store appended_store
made lim s plan x k h = rw h (refl, refl)

-- the old plans, the new one, and zeros
pub append_form : (lim : Limits) (s plan : List ℕ) (x : ℕ) → append_of lim s plan ≡ Ok x → appended_store lim s plan ≡ front lim s ++ (plan ++ replicate (length s - (last_end lim s + length plan)) 0)
append_form lim s plan x h =
    let f = append_yes lim s plan x h in
    (made lim s plan x 0 h).1 ∙ form lim s plan f.room

-- the writes, one after the other
pub one_by_one : (lim : Limits) (s plan : List ℕ) (x : ℕ) → append_of lim s plan ≡ Ok x → OneByOne lim s plan x
one_by_one lim s plan x h = record { none = none; next = next; over = over; whole = whole }
  where
    f : Fits lim s plan x
    f = append_yes lim s plan x h

    room : x + length plan ≤ length s
    room = omega (arith, f.room, f.place)

    count : length (writes_at (length s) x plan) ≡ length s - x + length plan
    count = writes_length (length s) x plan

    none : cut_store lim s plan 0 ≡ s
    none = sym (cut_writes lim s plan 0 x h) ∙ after_none s

    -- w is write k, which lies within the store
    step : (k : ℕ) → k < length s - x + length plan → (w : Write) → Some w ≡ nth_write (length s) x plan k → w.place < length s → Next lim s plan x k
    step k l w e here = record {
      write = w;
      is = sym e;
      within = here;
      leaves = sym (cut_writes lim s plan (suc k) x h)
          ∙ after_some s (writes_at (length s) x plan) k w (sym (e ∙ nth_listed (length s) x plan k room))
          ∙ ap (λ t. written t w) (cut_writes lim s plan k x h);
    }

    next : (k : ℕ) → k < length s - x + length plan → Next lim s plan x k
    next k l = go (dec_lt k (length s - x))
      where
        go : Dec (k < length s - x) → Next lim s plan x k
        go (yes z) = step k l _ (nth_zero (length s) x plan k room z) (omega arith)
        go (no z) = step k l _ (nth_byte (length s) x plan k room (omega arith) (omega arith)) (omega (arith, room))

    over : (k : ℕ) → length s - x + length plan ≤ k → nth_write (length s) x plan k ≡ None
    over k l = sym (nth_past (length s) x plan k room l)

    whole : cut_store lim s plan (length s - x + length plan) ≡ appended_store lim s plan
    whole = cut_whole lim s plan (length s - x + length plan) (omega (arith, total lim s plan f.room, f.place))
