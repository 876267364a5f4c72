-- Laws of the writes: each of them, and what the store is after the first k.
-- Assumes nothing.
use Prim.Native.Nat.{ℕ, zero, suc, ◌+◌, ◌-◌, ◌≤◌, ◌<◌, min}
use mathlib.Core.Path.{◌≡◌, refl, sym, ap, ap₂, ◌∙◌}
use mathlib.Core.List.{List, [], ◌∷◌, ◌++◌, append_assoc, append-nil}
use native.Mathlib.Numerals.{add-one}
use native.Mathlib.Omega.{arith}
use native.Mathlib.Decide.{dec_le}
use lib.ListN.{length, get_or, set, take, drop, replicate, length-set, length-append, length-replicate, get_or-append}
use lib.Seq.{take-suc, take_all, take-length, take_at, drop-append-add, take-append-le, take-append-add, append_snoc, set_at, length-take-le, get_or-append-add}
use borrow.Author.Tests.{le-leb, lt-leb}
use Rattle.std.specs.Prelude.{Some, None, slice_get}
use Rattle.std.proofs.lemmas.Option.{slice_get_past, slice_get_within, get_or_from_slice_get, slice_get-get_or}
use Rattle.basics.specs.Put.{put}
use Rattle.basics.proofs.Put.{put_none, put_more}
use Rattle.planlog.specs.Writes.{zeros, copies, writes_at, nth_write, written, after}
use Rattle.planlog.specs.declared.Write.{Write}

-- what stands past the last write, in these laws
abbrev blank : Write
blank = record { place = 0; byte = 0 }

pub zeros_length : (end n : ℕ) → length (zeros end n) ≡ n
unfolding zeros
zeros_length end zero = refl
zeros_length end (suc n) = ap suc (zeros_length end n)

pub copies_length : (at : ℕ) (xs : List ℕ) → length (copies at xs) ≡ length xs
unfolding copies
copies_length at [] = refl
copies_length at (x ∷ xs) = ap suc (copies_length (suc at) xs)

pub copies_all : (at : ℕ) (xs : List ℕ) (i : ℕ) → length xs ≤ i → take i (copies at xs) ≡ copies at xs
copies_all at xs i h = take_all i (copies at xs) (omega (arith, copies_length at xs))

pub writes_length : (size end : ℕ) (plan : List ℕ) → length (writes_at size end plan) ≡ size - end + length plan
unfolding writes_at
writes_length size end plan =
    length-append (zeros end (size - end)) (copies end plan) ∙ ap₂ ◌+◌ (zeros_length end (size - end)) (copies_length end plan)

zeros_nth : (d : Write) (end n k j : ℕ) → k + suc j ≡ n → get_or (zeros end n) k d ≡ record { place = end + j; byte = 0 }
unfolding zeros
zeros_nth d end zero k j h = absurd (omega arith)
zeros_nth d end (suc n) zero j h = let e : n ≡ j = omega arith in rw e
zeros_nth d end (suc n) (suc k) j h = zeros_nth d end n k j (omega arith)

copies_nth : (d : Write) (at : ℕ) (xs : List ℕ) (k : ℕ) → k < length xs → get_or (copies at xs) k d ≡ record { place = at + k; byte = get_or xs k 0 }
unfolding copies
copies_nth d at [] k h = absurd (omega arith)
copies_nth d at (x ∷ xs) zero h = let e : at ≡ at + 0 = omega arith in rw (← e)
copies_nth d at (x ∷ xs) (suc k) h =
    let e : suc at + k ≡ at + suc k = omega arith in
    rw (copies_nth d (suc at) xs k (omega arith), e)

-- write k: a zero, a byte of the plan, or none
module _ (size end : ℕ) (plan : List ℕ) (k : ℕ) where
  pub nth_beyond : size < end + length plan → None ≡ nth_write size end plan k
  unfolding nth_write
  nth_beyond h = rw (lt-leb _ _ h)

  module _ (fits : end + length plan ≤ size) where
    pub nth_listed : nth_write size end plan k ≡ slice_get (writes_at size end plan) k
    unfolding nth_write
    nth_listed = rw (le-leb _ _ fits)

    nth_some : (w : Write) → k < size - end + length plan → get_or (writes_at size end plan) k blank ≡ w → Some w ≡ nth_write size end plan k
    nth_some w h e =
        sym (nth_listed ∙ slice_get-get_or (writes_at size end plan) k blank (omega (arith, writes_length size end plan)) ∙ ap Some e)

    pub nth_zero : k < size - end → Some (record { place = size - (k + 1); byte = 0 }) ≡ nth_write size end plan k
    unfolding writes_at
    nth_zero h =
        let e : size - (k + 1) ≡ end + (size - end - suc k) = omega arith in
        let z = zeros_nth blank end (size - end) k (size - end - suc k) (omega arith) in
        let a = get_or-append (zeros end (size - end)) (copies end plan) blank k (omega (arith, zeros_length end (size - end))) in
        nth_some _ (omega arith) (rw (a, z, e))

    pub nth_byte : size - end ≤ k → k - (size - end) < length plan → Some (record { place = end + (k - (size - end)); byte = get_or plan (k - (size - end)) 0 }) ≡ nth_write size end plan k
    unfolding writes_at
    nth_byte h l =
        let j = k - (size - end) in
        let e : k ≡ length (zeros end (size - end)) + j = omega (arith, zeros_length end (size - end)) in
        let a = rw (← e) at (get_or-append-add (zeros end (size - end)) (copies end plan) j blank) in
        nth_some _ (omega arith) (a ∙ copies_nth blank end plan j l)

    pub nth_past : size - end + length plan ≤ k → None ≡ nth_write size end plan k
    nth_past h = sym (nth_listed ∙ slice_get_past (writes_at size end plan) k (omega (arith, writes_length size end plan)))

pub after_append : (s : List ℕ) (xs ys : List Write) → after s (xs ++ ys) ≡ after (after s xs) ys
unfolding after
after_append s [] ys = refl
after_append s (w ∷ ws) ys = after_append (written s w) ws ys

pub after_length : (s : List ℕ) (ws : List Write) → length (after s ws) ≡ length s
unfolding after
after_length s [] = refl
after_length s (w ∷ ws) = after_length (written s w) ws ∙ length-set s w.place w.byte

pub after_none : (s : List ℕ) → after s [] ≡ s
unfolding after
after_none s = refl

pub after_next : (d : Write) (s : List ℕ) (ws : List Write) (k : ℕ) → k < length ws → after s (take (suc k) ws) ≡ written (after s (take k ws)) (get_or ws k d)
unfolding after
after_next d s ws k h = rw (take-suc ws k d h) (after_append s (take k ws) (get_or ws k d ∷ []))

pub after_some : (s : List ℕ) (ws : List Write) (k : ℕ) (w : Write) → slice_get ws k ≡ Some w → after s (take (suc k) ws) ≡ written (after s (take k ws)) w
after_some s ws k w e =
    after_next blank s ws k (slice_get_within ws k w e) ∙ ap (written (after s (take k ws))) (get_or_from_slice_get ws k w blank e)

-- one zero more, and one byte more
zero_next : (s : List ℕ) (end n k j : ℕ) → k + suc j ≡ n → after s (take (suc k) (zeros end n)) ≡ set (after s (take k (zeros end n))) (end + j) 0
zero_next s end n k j h =
    let w = zeros_nth blank end n k j h in
    let a = after_next blank s (zeros end n) k (omega (arith, zeros_length end n)) in
    rw w at a

copy_next : (s : List ℕ) (at : ℕ) (xs : List ℕ) (k : ℕ) → k < length xs → after s (take (suc k) (copies at xs)) ≡ set (after s (take k (copies at xs))) (at + k) (get_or xs k 0)
copy_next s at xs k h =
    let w = copies_nth blank at xs k h in
    let a = after_next blank s (copies at xs) k (omega (arith, copies_length at xs)) in
    rw w at a

-- the same, as the loops make them
pub zero_step : (s : List ℕ) (end i : ℕ) → end ≤ length s → i < length s - end → set (after s (take i (zeros end (length s - end)))) (length s - (i + 1)) 0 ≡ after s (take (i + 1) (zeros end (length s - end)))
zero_step s end i h l =
    let e : length s - (i + 1) ≡ end + (length s - end - suc i) = omega arith in
    rw (e, add-one) (sym (zero_next s end (length s - end) i (length s - end - suc i) (omega arith)))

pub copy_step : (s : List ℕ) (at : ℕ) (xs : List ℕ) (i : ℕ) → i < length xs → set (after s (take i (copies at xs))) (at + i) (get_or xs i 0) ≡ after s (take (i + 1) (copies at xs))
copy_step s at xs i h = rw add-one (sym (copy_next s at xs i h))

-- the zeros, from the last byte back
pub zeros_form : (p t : List ℕ) (k : ℕ) → k ≤ length t → after (p ++ t) (take k (zeros (length p) (length t))) ≡ p ++ (take (length t - k) t ++ replicate k 0)
zeros_form p t zero h =
    let e : length t - 0 ≡ length t = omega arith in
    after_none (p ++ t) ∙ rw (e, take-length t, append-nil t)
zeros_form p t (suc k) h =
    let j = length t - suc k in
    let e : length t - k ≡ suc j = omega arith in
    let n : length (p ++ take j t) ≡ length p + j = length-append p (take j t) ∙ ap (λ m. length p + m) (length-take-le j t (omega arith)) in
    zero_next (p ++ t) (length p) (length t) k j (omega arith)
    ∙ rw (zeros_form p t k (omega arith), e, take-suc t j 0 (omega arith), append_snoc (take j t) (get_or t j 0) (replicate k 0), ← append_assoc p (take j t))
    (set_at (p ++ take j t) (get_or t j 0) (replicate k 0) 0 (length p + j) n ∙ append_assoc p (take j t) (0 ∷ replicate k 0))

-- the plan, forwards
copies_put : (s : List ℕ) (at : ℕ) (xs : List ℕ) (k : ℕ) → k ≤ length xs → at + length xs ≤ length s → after s (take k (copies at xs)) ≡ put s at (take k xs)
copies_put s at xs zero h f = after_none s ∙ put_none s at xs
copies_put s at xs (suc k) h f =
    copy_next s at xs k (omega arith)
    ∙ rw (copies_put s at xs k (omega arith) f) (rw add-one at (put_more s at xs k (omega arith) (omega arith)))

drop_zeros : (k n : ℕ) → k ≤ n → ◌≡◌ {A = List ℕ} (drop k (replicate n 0)) (replicate (n - k) 0)
drop_zeros zero n h = let e : n - 0 ≡ n = omega arith in rw e
drop_zeros (suc k) zero h = absurd (omega arith)
drop_zeros (suc k) (suc n) h = let e : suc n - suc k ≡ n - k = omega arith in rw e (drop_zeros k n (omega arith))

pub copies_form : (p xs : List ℕ) (n k : ℕ) → k ≤ length xs → length xs ≤ n → after (p ++ replicate n 0) (take k (copies (length p) xs)) ≡ p ++ (take k xs ++ replicate (n - k) 0)
unfolding put
copies_form p xs n k h f =
    copies_put (p ++ replicate n 0) (length p) xs k h (rw (length-append p (replicate n 0), length-replicate {A = ℕ} n 0) (omega arith))
    ∙ rw (take_at p (replicate n 0) (length p) refl, length-take-le k xs h, drop-append-add p (replicate n 0) k, drop_zeros k n (omega arith)) (append_assoc p (take k xs) (replicate (n - k) 0))

-- the first writes are zeros, and then bytes of the plan
take_two : {A : Type 0} (xs ys : List A) (most k j : ℕ) → k ≡ min (length xs) most → j ≡ min (length ys) (most - k) → take k xs ++ take j ys ≡ take most (xs ++ ys)
take_two xs ys most k j hk hj = go (dec_le most (length xs))
  where
    go : Dec (most ≤ length xs) → take k xs ++ take j ys ≡ take most (xs ++ ys)
    go (yes h) =
        let a : k ≡ most = omega arith in
        let b : j ≡ 0 = omega arith in
        rw (a, b, take-append-le most xs ys h) (append-nil (take most xs))
    go (no h) =
        let a : k ≡ length xs = omega arith in
        let e : most ≡ length xs + (most - length xs) = omega arith in
        rw (e, take-append-add xs ys (most - length xs), a, take-length xs) (ap (λ l. xs ++ l) (last (dec_le (most - length xs) (length ys))))
      where
        last : Dec (most - length xs ≤ length ys) → take j ys ≡ take (most - length xs) ys
        last (yes g) = let b : j ≡ most - length xs = omega arith in rw b
        last (no g) =
            let b : j ≡ length ys = omega arith in
            rw (b, take-length ys) (sym (take_all (most - length xs) ys (omega arith)))

copies_take : (at : ℕ) (xs : List ℕ) (j : ℕ) → copies at (take j xs) ≡ take j (copies at xs)
unfolding copies
copies_take at xs zero = refl
copies_take at [] (suc j) = refl
copies_take at (x ∷ xs) (suc j) = ap (λ ws. record { place = at; byte = x } ∷ ws) (copies_take (suc at) xs j)

pub writes_two : (s : List ℕ) (end : ℕ) (plan : List ℕ) (most k j : ℕ) → k ≡ min most (length s - end) → j ≡ min (length plan) (most - k) → after (after s (take k (zeros end (length s - end)))) (copies end (take j plan)) ≡ after s (take most (writes_at (length s) end plan))
unfolding writes_at
writes_two s end plan most k j hk hj =
    let zs = zeros end (length s - end) in
    let cs = copies end plan in
    rw (copies_take end plan j)
    (sym (after_append s (take k zs) (take j cs))
    ∙ ap (after s) (take_two zs cs most k j (rw (zeros_length end (length s - end)) (omega arith)) (rw (copies_length end plan) hj)))
