-- What is put as text is read back: the digits of a number say the number, and the hex text of bytes says the bytes.
-- Assumes nothing.
use Prim.Native.Nat.{ℕ, zero, suc, ◌+◌, ◌*◌, ◌-◌, ◌/◌, ◌%◌, ◌^◌, ◌<◌, ◌≤◌}
use mathlib.Core.Path.{◌≡◌, refl, ◌∙◌}
use mathlib.Core.Bool.{Bool, true, false, cond}
use mathlib.Core.List.{List, [], ◌∷◌, ◌++◌}
use native.Mathlib.Omega.{arith}
use native.Mathlib.Nat.{pow-zero, pow-suc}
use native.Mathlib.Decide.{ℕ_discrete}
use borrow.Author.Tests.{le-leb, lt-leb, lt-ltb, ltb-true, ltb-false}
use lib.Dec.{ltb}
use lib.ListN.{length, get_or, take, length-append, get_or-append}
use lib.Seq.{take-suc, take-length, get_or_at}
use Rattle.io.specs.Digits.{hex_digit_ascii, last_digits}
use Rattle.std.proofs.Common.{Option, Some}
use Rattle.text.specs.Number.{step, goes_on, number_in}
use Rattle.text.specs.Hex.{hex_of, worth, bytes_of}
use Rattle.text.proofs.Digits.{hex_length}

-- the last digit
goes_on_last : (most : ℕ) (r : Option ℕ) (s : List ℕ) (x : ℕ) → goes_on most r (s ++ (x ∷ [])) ≡ step most (goes_on most r s) x
unfolding goes_on
goes_on_last most r [] x = refl
goes_on_last most r (y ∷ s) x = goes_on_last most (step most r y) s x

-- with one digit or more, all of them in turn
not_empty : (most : ℕ) (s : List ℕ) (x : ℕ) → number_in most (s ++ (x ∷ [])) ≡ goes_on most (Some 0) (s ++ (x ∷ []))
unfolding number_in
not_empty most [] x = refl
not_empty most (y ∷ s) x = refl

digits_say : (most k n : ℕ) → n < 10 ^ k → n ≤ most → goes_on most (Some 0) (last_digits 10 k n) ≡ Some n
unfolding goes_on step
digits_say most zero n h l = let z : n ≡ 0 = omega (arith, pow-zero 10) in rw z
digits_say most (suc k) n h l =
    let v : 10 * (n / 10) + ((48 + n % 10) - 48) ≡ n = omega arith in
    rw (
      goes_on_last most (Some 0) (last_digits 10 k (n / 10)) (hex_digit_ascii (n % 10)),
      digits_say most k (n / 10) (omega (arith, pow-suc 10 k)) (omega arith),
      lt-ltb (n % 10) 10 (omega arith),
      le-leb 48 (48 + n % 10) (omega arith),
      le-leb (48 + n % 10) 57 (omega arith),
      v,
      le-leb n most l,
    )

-- a number's decimal digits are read as the number
pub number_back : (most k n : ℕ) → n < 10 ^ suc k → n ≤ most → number_in most (last_digits 10 (suc k) n) ≡ Some n
number_back most k n h l = not_empty most (last_digits 10 k (n / 10)) (hex_digit_ascii (n % 10)) ∙ digits_say most (suc k) n h l

-- both digits of each byte
abbrev DigitsAt : List ℕ → List ℕ → ℕ → Type 0
DigitsAt t s i = (get_or t (2 * i) 0 ≡ hex_digit_ascii (get_or s i 0 / 16)) × (get_or t (2 * i + 1) 0 ≡ hex_digit_ascii (get_or s i 0 % 16))

-- two digits more leave those before them, and are the last
module _ (v : List ℕ) (k a b : ℕ) (len : length v ≡ 2 * k) where
  longer : length (v ++ (a ∷ [])) ≡ 2 * k + 1
  longer = rw (length-append, len)

  before : (j : ℕ) → j < 2 * k → get_or ((v ++ (a ∷ [])) ++ (b ∷ [])) j 0 ≡ get_or v j 0
  before j h =
      get_or-append (v ++ (a ∷ [])) (b ∷ []) 0 j (omega (arith, longer)) ∙ get_or-append v (a ∷ []) 0 j (omega arith)

  first : get_or ((v ++ (a ∷ [])) ++ (b ∷ [])) (2 * k) 0 ≡ a
  first = get_or-append (v ++ (a ∷ [])) (b ∷ []) 0 (2 * k) (omega (arith, longer)) ∙ get_or_at v a [] 0 (2 * k) len

  second : get_or ((v ++ (a ∷ [])) ++ (b ∷ [])) (2 * k + 1) 0 ≡ b
  second = get_or_at (v ++ (a ∷ [])) b [] 0 (2 * k + 1) longer

hex_at : (s : List ℕ) (k i : ℕ) → i < k → DigitsAt (hex_of s k) s i
unfolding hex_of
hex_at s zero i h = absurd (omega arith)
hex_at s (suc k) i h = go (ℕ_discrete i k) (λ l. hex_at s k i l)
  where
    a : ℕ
    a = hex_digit_ascii (get_or s k 0 / 16)

    b : ℕ
    b = hex_digit_ascii (get_or s k 0 % 16)

    go : Dec (i ≡ k) → (i < k → DigitsAt (hex_of s k) s i) → DigitsAt ((hex_of s k ++ (a ∷ [])) ++ (b ∷ [])) s i
    go (yes e) f = rw e (first (hex_of s k) k a b (hex_length s k), second (hex_of s k) k a b (hex_length s k))
    go (no n) f =
        let l : i < k = omega arith in
        (before (hex_of s k) k a b (hex_length s k) (2 * i) (omega arith) ∙ (f l).0, before (hex_of s k) k a b (hex_length s k) (2 * i + 1) (omega arith) ∙ (f l).1)

-- a digit is worth what it stands for
worth_back : (d : ℕ) → d < 16 → worth (hex_digit_ascii d) ≡ d
unfolding worth
worth_back d h = go (ltb d 10) refl
  where
    go : (b : Bool) → ltb d 10 ≡ b → worth (cond b (48 + d) (87 + d)) ≡ d
    go true e = rw (le-leb 48 (48 + d) (omega arith), le-leb (48 + d) 57 (omega (arith, ltb-true d 10 e))) (omega arith)
    go false e =
        rw (le-leb 48 (87 + d) (omega arith), lt-leb (87 + d) 57 (omega arith), le-leb 97 (87 + d) (omega (arith, ltb-false d 10 e)), le-leb (87 + d) 102 (omega arith)) (omega arith)

bytes_say : (s : List ℕ) (k i : ℕ) → ((j : ℕ) → get_or s j 0 < 256) → k ≤ length s → i ≤ k → bytes_of (hex_of s k) i ≡ take i s
unfolding bytes_of
bytes_say s k zero b l h = refl
bytes_say s k (suc i) b l h =
    let v : 16 * (get_or s i 0 / 16) + get_or s i 0 % 16 ≡ get_or s i 0 = omega arith in
    rw (bytes_say s k i b l (omega arith), (hex_at s k i (omega arith)).0, (hex_at s k i (omega arith)).1, worth_back (get_or s i 0 / 16) (omega (arith, b i)), worth_back (get_or s i 0 % 16) (omega arith), v, take-suc s i 0 (omega arith))

-- the hex text of bytes says the bytes
pub hex_back : (s : List ℕ) → ((j : ℕ) → get_or s j 0 < 256) → bytes_of (hex_of s (length s)) (length s) ≡ s
hex_back s b = bytes_say s (length s) (length s) b (omega arith) (omega arith) ∙ take-length s
