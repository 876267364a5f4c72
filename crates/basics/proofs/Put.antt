-- Laws of `put`.
-- Assumes nothing.
use Prim.Native.Nat.{ℕ, suc, ◌+◌, ◌≤◌, ◌<◌}
use mathlib.Core.Path.{◌≡◌, sym, ap, ◌∙◌}
use mathlib.Core.List.{List, [], ◌∷◌, ◌++◌, append_assoc}
use native.Mathlib.Numerals.{add-one}
use native.Mathlib.Omega.{arith}
use native.Mathlib.Nat.{add_assoc}
use lib.ListN.{length, get_or, set, take, drop, length-append, length-drop}
use lib.Seq.{drop-cons, set_at, append_snoc, paste-zero, paste-suc, length-take-le, take_at, drop-drop, drop-append-add}
use Rattle.basics.specs.Put.{put}

pub put_none : (d : List ℕ) (at : ℕ) (s : List ℕ) → d ≡ put d at (take 0 s)
unfolding put
put_none d at s = paste-zero d at s

-- one more byte of s
pub put_more : (d : List ℕ) (at : ℕ) (s : List ℕ) (i : ℕ) → at + i < length d → i < length s → set (put d at (take i s)) (at + i) (get_or s i 0) ≡ put d at (take (i + 1) s)
unfolding put
put_more d at s i hd hs =
    rw (length-take-le i s (omega arith), length-take-le (i + 1) s (omega arith), add-one) (paste-suc d at s i 0 hd hs)

module _ (d : List ℕ) (at : ℕ) (v : List ℕ) (fits : at + length v ≤ length d) where
  head_length : length (take at d ++ v) ≡ at + length v
  head_length =
      length-append (take at d) v ∙ ap (λ k. k + length v) (length-take-le at d (omega arith))

  pub length_put : length (put d at v) ≡ length d
  unfolding put
  length_put = rw (length-append (take at d ++ v), head_length, length-drop) (omega arith)

  pub take_put : take (at + length v) (put d at v) ≡ take at d ++ v
  unfolding put
  take_put = take_at (take at d ++ v) _ _ head_length

  pub drop_put : (k : ℕ) → drop (at + length v + k) (put d at v) ≡ drop (at + length v + k) d
  unfolding put
  drop_put k =
      rw (← head_length) (drop-append-add (take at d ++ v) _ k ∙ rw (head_length, drop-drop))

  pub put_put : (w : List ℕ) → put (put d at v) (at + length v) w ≡ put d at (v ++ w)
  unfolding put
  put_put w = rw (take_put, drop_put, length-append, append_assoc (take at d), add_assoc at)

-- one more byte at the end
pub put_snoc : (d : List ℕ) (at : ℕ) (v : List ℕ) (x : ℕ) → at + length v < length d → set (put d at v) (at + length v) x ≡ put d at (v ++ (x ∷ []))
unfolding put
put_snoc d at v x h =
    let e : at + (length v + 1) ≡ suc (at + length v) = omega arith in
    rw (drop-cons d (at + length v) 0 h, set_at (take at d ++ v) _ _ x _ (head_length d at v (omega arith)), length-append v, ← append_assoc (take at d), e)
    (sym (append_snoc (take at d ++ v) x _))
