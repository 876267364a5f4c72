-- The trailer: what is read there once it was written, and what was written where it is read.
-- Assumes nothing.
use Prim.Native.Nat.{ℕ, ◌+◌, ◌*◌, ◌-◌, ◌≤◌, ◌<◌, ◌^◌, ◌/◌, ◌%◌}
use mathlib.Core.Path.{◌≡◌, refl, sym, ap, ◌∙◌}
use mathlib.Core.List.{List, [], ◌∷◌, ◌++◌}
use native.Mathlib.Omega.{arith}
use lib.ListN.{length, get_or, drop, length-drop, drop_of_length-le, length-append}
use lib.Seq.{get_or-drop, drop-drop}
use Rattle.basics.specs.Bytes.{u32_at, le4}
use Rattle.basics.proofs.Bytes.{le4_back, u32_past}
use Rattle.planfile.specs.Plan.{mark, trailer_bytes, trailer}
use Rattle.planfile.specs.Round.{AllBytes}

-- the mark, as the number that it is read as
mark_value : u32_at mark 0 ≡ 0x31505454
unfolding u32_at
mark_value = refl

-- bytes that end in the trailer: the mark, and the distance
module _ (x : List ℕ) (back : ℕ) where
  trailed : length (x ++ trailer back) ≡ length x + 8
  trailed = length-append x (trailer back)

  mark_in : u32_at (trailer back) 4 ≡ u32_at mark 0
  unfolding u32_at
  mark_in = refl

  pub ends_marked : u32_at (x ++ trailer back) (length (x ++ trailer back) - 4) ≡ u32_at mark 0
  ends_marked =
      let e : length (x ++ trailer back) - 4 ≡ length x + 4 = omega (arith, trailed) in
      rw e (u32_past x (trailer back) 4 ∙ mark_in)

  pub ends_back : back < 2 ^ 32 → u32_at (x ++ trailer back) (length (x ++ trailer back) - trailer_bytes) ≡ back
  ends_back small =
      let e : length (x ++ trailer back) - trailer_bytes ≡ length x + 0 = omega (arith, trailed) in
      rw e (u32_past x (trailer back) 0 ∙ le4_back back mark small)

-- four bytes, read as a number and written again
four_bytes : (a b c d : ℕ) → a < 256 → b < 256 → c < 256 → d < 256 → le4 (a + 256 * b + 65536 * c + 16777216 * d) ≡ a ∷ b ∷ c ∷ d ∷ []
four_bytes a b c d ha hb hc hd =
    let p : (a + 256 * b + 65536 * c + 16777216 * d) / 256 ≡ b + 256 * c + 65536 * d = omega arith in
    let q : (b + 256 * c + 65536 * d) / 256 ≡ c + 256 * d = omega arith in
    let r : (c + 256 * d) / 256 ≡ d = omega arith in
    let w : (a + 256 * b + 65536 * c + 16777216 * d) % 256 ≡ a = omega arith in
    let x : (b + 256 * c + 65536 * d) % 256 ≡ b = omega arith in
    let y : (c + 256 * d) % 256 ≡ c = omega arith in
    let z : d % 256 ≡ d = omega arith in
    rw (p, q, r, w, x, y, z)

first_four : (d : List ℕ) → 4 ≤ length d → d ≡ get_or d 0 0 ∷ get_or d 1 0 ∷ get_or d 2 0 ∷ get_or d 3 0 ∷ drop 4 d
first_four (a ∷ b ∷ c ∷ d ∷ r) h = refl
first_four (a ∷ b ∷ c ∷ []) h = absurd (omega arith)
first_four (a ∷ b ∷ []) h = absurd (omega arith)
first_four (a ∷ []) h = absurd (omega arith)
first_four [] h = absurd (omega arith)

module _ (s : List ℕ) (bytes : AllBytes s) where
  -- the 32 bits at i are the four bytes there
  pub le4_at : (i : ℕ) → i + 4 ≤ length s → drop i s ≡ le4 (u32_at s i) ++ drop (i + 4) s
  unfolding u32_at
  le4_at i h =
      let e : drop 4 (drop i s) ≡ drop (i + 4) s = drop-drop 4 i s in
      let n : 4 ≤ length (drop i s) = rw (length-drop i s) (omega arith) in
      let o : i + 0 ≡ i = omega arith in
      let f = first_four (drop i s) n in
      let g = rw (get_or-drop i s 0 0, o, get_or-drop i s 1 0, get_or-drop i s 2 0, get_or-drop i s 3 0, e) at f in
      g ∙ ap (λ l. l ++ drop (i + 4) s) (sym (four_bytes _ _ _ _ (bytes i (omega arith)) (bytes (i + 1) (omega arith)) (bytes (i + 2) (omega arith)) (bytes (i + 3) (omega arith))))

  pub trailer_at : (back : ℕ) → length s ≡ back + trailer_bytes → u32_at s (length s - trailer_bytes) ≡ length s - trailer_bytes → u32_at s (length s - 4) ≡ u32_at mark 0 → drop back s ≡ trailer back
  trailer_at back n d m =
      let e : length s - trailer_bytes ≡ back = omega arith in
      let f : length s - 4 ≡ back + 4 = omega arith in
      let a : u32_at s back ≡ back = rw e at d in
      let b : u32_at s (back + 4) ≡ u32_at mark 0 = rw f at m in
      let z : drop (back + 4 + 4) s ≡ [] = drop_of_length-le s {i = back + 4 + 4} (omega arith) in
      le4_at back (omega arith) ∙ rw (a, le4_at (back + 4) (omega arith), b, mark_value, z)
