-- A cut of power after any write of an append: the old plans stand as they were, and the new one counts once its last byte is written.
-- Assumes nothing.
use Prim.Native.Nat.{ℕ, ◌+◌, ◌-◌, ◌≤◌, ◌<◌}
use mathlib.Core.Path.{◌≡◌, refl, sym, ap, ◌∙◌}
use mathlib.Core.Bool.{true, false}
use mathlib.Core.List.{List, [], ◌∷◌, ◌++◌, append_assoc}
use native.Mathlib.Omega.{arith}
use native.Mathlib.Decide.{dec_le}
use lib.ListN.{length, take, replicate, length-drop, length-append}
use lib.Seq.{take-length, take_at, drop_at, drop-append-add}
use borrow.Author.Tests.{le-leb}
use Rattle.std.specs.Prelude.{Ok, Err}
use Rattle.basics.specs.Limits.{Limits}
use Rattle.basics.proofs.Tests.{not_both}
use Rattle.planfile.specs.Round.{AllBytes}
use Rattle.logwalk.specs.Walk.{accepts, size_of, size_at, plan_at, span_at, walk, last_end}
use Rattle.planlog.specs.Writes.{writes_of, store_after}
use Rattle.logwalk.specs.Answer.{store_most, newest_of}
use Rattle.planlog.specs.Answer.{append_of, cut_store, appended_store}
use Rattle.planlog.specs.Cut.{new_span, Old, New, Safe}
use Rattle.planlog.specs.declared.AppendWhy.{AppendWhy}
use Rattle.logwalk.proofs.Reader.{long, size}
use Rattle.logwalk.proofs.Here.{size_least, size_front, front_plan, behind_plan, behind_size}
use Rattle.planlog.proofs.Cutoff.{cut_off}
use Rattle.logwalk.proofs.Plans.{Plans, stop, more, plans_join, walk_is}
use Rattle.planlog.proofs.Rows.{append_yes, cut_leaves, append_leaves, cut_whole}
use Rattle.planlog.proofs.Behind.{front, rest, front_length, old_plans, rest_none, stays, rest_bytes, kept, newest_snoc}
use Rattle.planlog.proofs.Form.{total, same_size, planned, started, made, append_form}

-- with bytes behind the old plans that begin none
module _ (lim : Limits) (s x u : List ℕ) (n : length x ≡ length s) (e : x ≡ front lim s ++ u) (none : plan_at lim u 0 ≡ false) where
  same_walk : walk lim x ≡ walk lim s
  same_walk = rw e (stays lim s u none)

  same_end : last_end lim x ≡ last_end lim s
  unfolding last_end
  same_end = rw same_walk

  same_answer : (q : List ℕ) → append_of lim x q ≡ append_of lim s q
  unfolding append_of
  same_answer q = rw (n, same_end)

  old : Old lim s x
  unfolding newest_of
  old = record {
    kept = kept lim s x u n e;
    plans = same_walk;
    newest = rw (n, same_walk);
    again = same_answer;
    traceless = λ q y h. append_form lim x q y (same_answer q ∙ h) ∙ rw (same_end, n, (kept lim s x u n e).bytes) (sym (append_form lim s q y h));
  }

-- an append of bytes that the reader accepts, with room for them
module _ (lim : Limits) (s plan : List ℕ) (good : accepts lim plan ≡ true) (room : last_end lim s + length plan ≤ length s) where
  plan_size : size_of plan ≡ length plan
  plan_size = sym (size lim plan good)

  plan_here : plan_at lim plan 0 ≡ true
  unfolding plan_at
  plan_here = rw (plan_size, take-length plan) good

  -- zeros begin no plan
  zeros_none : (m : ℕ) → plan_at lim (replicate m 0) 0 ≡ false
  zeros_none m = cut_off [] 0 m (omega arith) lim (λ i h. absurd (omega arith)) (λ e. omega (arith, size_least []))

  -- the plan stands behind the old ones, and zeros behind it
  grows : (m : ℕ) → walk lim (front lim s ++ (plan ++ replicate m 0)) ≡ walk lim s ++ (new_span lim s plan ∷ [])
  grows m =
      let u = plan ++ replicate m 0 in
      let x = front lim s ++ u in
      let f = front_length lim s in
      let n : size_at x (last_end lim s) ≡ length plan = behind_size (front lim s) u (last_end lim s) f ∙ size_front plan (replicate m 0) (long lim plan good) ∙ plan_size in
      let h : plan_at lim x (last_end lim s) ≡ true = behind_plan lim (front lim s) u (last_end lim s) f ∙ front_plan plan (replicate m 0) 0 (omega (arith, plan_size)) lim ∙ plan_here in
      let e : length (front lim s ++ plan) ≡ last_end lim s + length plan = length-append (front lim s) plan ∙ ap (λ k. k + length plan) f in
      let g : plan_at lim x (last_end lim s + length plan) ≡ false = rw (append_assoc (front lim s) plan (replicate m 0)) at (behind_plan lim (front lim s ++ plan) (replicate m 0) (last_end lim s + length plan) e) ∙ zeros_none m in
      let raw : Plans lim x (last_end lim s) (last_end lim s + size_at x (last_end lim s)) (span_at x (last_end lim s) ∷ []) = more h stop in
      let one : Plans lim x (last_end lim s) (last_end lim s + length plan) (new_span lim s plan ∷ []) = rw n at raw in
      walk_is lim x (plans_join lim x (old_plans lim s u) one) g

  before : AllBytes s → AllBytes plan → (k : ℕ) → k < length (writes_of lim s plan) → Old lim s (store_after lim s plan k)
  before bytes planned-bytes k h = go (dec_le k (length s - last_end lim s))
    where
      go : Dec (k ≤ length s - last_end lim s) → Old lim s (store_after lim s plan k)
      go (yes l) =
          old lim s (store_after lim s plan k) _ (same_size lim s plan room k) (started lim s plan room k l)
          (cut_off (rest lim s) (length s - last_end lim s - k) k (omega (arith, length-drop (last_end lim s) s)) lim (rest_bytes lim s bytes) (λ e. absurd (not_both e (rest_none lim s))))
      go (no l) =
          let j = k - (length s - last_end lim s) in
          let e : k ≡ length s - last_end lim s + j = omega arith in
          let p : store_after lim s plan k ≡ front lim s ++ (take j plan ++ replicate (length s - last_end lim s - j) 0) = rw (← e) at (planned lim s plan room j (omega (arith, total lim s plan room))) in
          old lim s (store_after lim s plan k) _ (same_size lim s plan room k) p
          (cut_off plan j (length s - last_end lim s - j) (omega (arith, total lim s plan room)) lim planned-bytes (λ y. omega (arith, total lim s plan room, plan_size)))

  new : (x : List ℕ) → length s ≤ store_most → length x ≡ length s → x ≡ front lim s ++ (plan ++ replicate (length s - (last_end lim s + length plan)) 0) → New lim s plan x
  unfolding newest_of
  new x small n e =
      let m = length s - (last_end lim s + length plan) in
      let f = front_length lim s in
      let u = plan ++ replicate m 0 in
      let w : walk lim x ≡ walk lim s ++ (new_span lim s plan ∷ []) = rw e (grows m) in
      record {
        kept = kept lim s x u n e;
        plans = w;
        newest = rw (n, le-leb _ _ small, w) (newest_snoc (new_span lim s plan) (walk lim s));
        bytes = rw (e, drop_at (front lim s) u (last_end lim s) f) (take_at plan (replicate m 0) (length plan) refl);
        behind = rw e (rw f at (drop-append-add (front lim s) u (length plan)) ∙ drop_at plan (replicate m 0) (length plan) refl);
      }

-- an append that says yes: before the last write the newest plan is the old one, and from then on the new one
pub append_safe : (lim : Limits) (s plan : List ℕ) (x : ℕ) → AllBytes s → AllBytes plan → append_of lim s plan ≡ Ok x → Safe lim s plan
append_safe lim s plan x bytes plan-bytes h =
    let f = append_yes lim s plan x h in
    let n : length (appended_store lim s plan) ≡ length s = rw (← cut_whole lim s plan (length (writes_of lim s plan)) (omega arith), (made lim s plan x (length (writes_of lim s plan)) h).0) (same_size lim s plan f.room (length (writes_of lim s plan))) in
    let w : New lim s plan (appended_store lim s plan) = new lim s plan f.good f.room (appended_store lim s plan) f.small n (append_form lim s plan x h) in
    record {
      before = λ k l. rw (made lim s plan x k h).0 (before lim s plan f.good f.room bytes plan-bytes k l);
      from = λ k l. rw (cut_whole lim s plan k l) w;
      whole = w;
    }

-- an append that is refused leaves every byte as it was, cut or not
pub refusal_leaves : (lim : Limits) (s plan : List ℕ) (w : AppendWhy) → append_of lim s plan ≡ Err w → ((k : ℕ) → cut_store lim s plan k ≡ s) × (appended_store lim s plan ≡ s)
refusal_leaves lim s plan w h = ((λ k. sym (cut_leaves lim s plan k w h)), sym (append_leaves lim s plan w h))
