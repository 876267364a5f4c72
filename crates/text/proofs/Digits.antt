-- Hex text, a byte or a digit at a time.
-- Assumes nothing.
use Prim.Native.Nat.{ℕ, zero, suc, ◌+◌, ◌*◌, ◌/◌, ◌%◌, ◌<◌}
use mathlib.Core.Path.{◌≡◌, refl}
use mathlib.Core.Bool.{true}
use mathlib.Core.List.{List, [], ◌∷◌, ◌++◌}
use native.Mathlib.Omega.{arith}
use native.Mathlib.Numerals.{add-one}
use lib.ListN.{length, get_or, set, length-append}
use lib.Dec.{eqb}
use borrow.Author.Tests.{ltb-true}
use Rattle.basics.specs.Put.{put}
use Rattle.basics.proofs.Below.{all_at}
use Rattle.basics.proofs.Put.{put_snoc}
use Rattle.basics.proofs.Tests.{and_right}
use Rattle.io.specs.Digits.{hex_digit_ascii}
use Rattle.text.specs.Hex.{hex_of, worth, is_hex, bytes_of}

pub hex_length : (s : List ℕ) (k : ℕ) → length (hex_of s k) ≡ 2 * k
unfolding hex_of
hex_length s zero = refl
hex_length s (suc k) = simp length-append (omega (arith, hex_length s k))

pub bytes_length : (s : List ℕ) (k : ℕ) → length (bytes_of s k) ≡ k
unfolding bytes_of
bytes_length s zero = refl
bytes_length s (suc k) = simp length-append (omega (arith, bytes_length s k))

-- two bytes more at the end
two_more : (d : List ℕ) (at : ℕ) (v : List ℕ) (x y : ℕ) → at + length v + 1 < length d → set (set (put d at v) (at + length v) x) (at + length v + 1) y ≡ put d at ((v ++ (x ∷ [])) ++ (y ∷ []))
two_more d at v x y h =
    let e : at + length v + 1 ≡ at + length (v ++ (x ∷ [])) = simp length-append (omega arith) in
    rw (put_snoc d at v x (omega arith), e) (put_snoc d at (v ++ (x ∷ [])) y (rw e at h))

-- both digits of byte i
pub hex_turn : (d : List ℕ) (at : ℕ) (s : List ℕ) (i x y : ℕ) → at + 2 * i + 1 < length d → x ≡ hex_digit_ascii (get_or s i 0 / 16) → y ≡ hex_digit_ascii (get_or s i 0 % 16) → set (set (put d at (hex_of s i)) (at + 2 * i) x) (at + 2 * i + 1) y ≡ put d at (hex_of s (i + 1))
unfolding hex_of
hex_turn d at s i x y h p q =
    rw (p, q, add-one i, ← hex_length s i) (two_more d at (hex_of s i) _ _ (rw (hex_length s i) h))

-- the byte of pair i
pub bytes_turn : (d : List ℕ) (at : ℕ) (s : List ℕ) (i a b : ℕ) → at + i < length d → a ≡ worth (get_or s (2 * i) 0) → b ≡ worth (get_or s (2 * i + 1) 0) → set (put d at (bytes_of s i)) (at + i) (16 * a + b) ≡ put d at (bytes_of s (i + 1))
unfolding bytes_of
bytes_turn d at s i a b h p q =
    let e : at + i ≡ at + length (bytes_of s i) = rw (bytes_length s i) in
    rw (p, q, add-one i, e) (put_snoc d at (bytes_of s i) _ (rw e at h))

-- each byte of hex text is a digit
pub digit_at : (s : List ℕ) (i : ℕ) → is_hex s ≡ true → i < length s → worth (get_or s i 0) < 16
unfolding is_hex
digit_at s i h l = ltb-true _ _ (all_at _ (length s) i (and_right (eqb (length s % 2) 0) _ h) l)
