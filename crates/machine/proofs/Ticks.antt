-- The five cases of the tick difference are all of them, no two overlap, and a tick says the one that covers its difference.
-- Assumes nothing.
use Rattle.std.proofs.Common.{◌≡◌, ℕ, ◌+◌, ◌<◌, Bool, true, false, eqb, ltb, ◌↔◌, sym, refl, arith, ltb-false, ltb-true, le-ltb, lt-ltb, ne_eqb, eqb-true}
use borrow.Author.Tests.{eqb-false}
use Rattle.basics.specs.Choice.{pick}
use Rattle.machine.specs.declared.tick.Tick.{Tick}
use Rattle.machine.specs.declared.tick.Tick.TheVariants.{Next, Same, Lost, Half, Stale}
use Rattle.machine.specs.Tick.{difference, case_of, tick_of, Covers, OneCase}

-- no case but that of a difference covers it
covered : (d : ℕ) (t : Tick) → Covers t d → case_of d ≡ t
unfolding case_of pick
covered d Same h = simp (h)
covered d Next h = simp (h)
covered d Lost h = simp (ne_eqb d 0 (λ e. omega arith), ne_eqb d 1 (λ e. omega arith), lt-ltb d 32768 (omega arith))
covered d Half h = simp (h)
covered d Stale h = simp (ne_eqb d 0 (λ e. omega arith), ne_eqb d 1 (λ e. omega arith), le-ltb d 32768 (omega arith), ne_eqb d 32768 (λ e. omega arith))

-- and that does
covers : (d : ℕ) → d < 65536 → Covers (case_of d) d
unfolding case_of pick
covers d l = by_test (eqb d 0) refl (eqb d 1) refl (ltb d 32768) refl (eqb d 32768) refl
  where
    by_test : (a : Bool) → eqb d 0 ≡ a → (b : Bool) → eqb d 1 ≡ b → (c : Bool) → ltb d 32768 ≡ c → (e : Bool) → eqb d 32768 ≡ e
        → Covers (pick a Same (pick b Next (pick c Lost (pick e Half Stale)))) d
    by_test true h b i c j e k = eqb-true d 0 h
    by_test false h true i c j e k = eqb-true d 1 i
    by_test false h false i true j e k = (omega (arith, eqb-false d 0 h, eqb-false d 1 i), omega (arith, ltb-true d 32768 j))
    by_test false h false i false j true k = eqb-true d 32768 k
    by_test false h false i false j false k = (omega (arith, ltb-false d 32768 j, eqb-false d 32768 k), omega arith)

-- the five cases are all of them, and no two overlap
pub five_cases : (d : ℕ) → d < 65536 → OneCase d
five_cases d l = record { case = case_of d; covers = covers d l; only = λ t h. sym (covered d t h) }

-- a difference has 16 bits
below : (last tick : ℕ) → difference tick last < 65536
unfolding difference
below last tick = omega arith

-- a tick says the case that covers its difference, and no other
pub said_covers : (last tick : ℕ) → Covers (tick_of last tick) (difference tick last)
unfolding tick_of
said_covers last tick = covers (difference tick last) (below last tick)

pub covered_said : (last tick : ℕ) (t : Tick) → Covers t (difference tick last) → tick_of last tick ≡ t
unfolding tick_of
covered_said last tick = covered (difference tick last)

-- the way there and the way back go once round
round : (last tick : ℕ) → last < 65536 → tick < 65536 → (difference tick last ≡ 0 → ⊥) → difference tick last + difference last tick ≡ 65536
unfolding difference
round last tick a b n = omega arith

-- why half the counter away says nothing: no other tick but the last one itself is as far ahead of it as behind
pub half_both_ways : (last tick : ℕ) → last < 65536 → tick < 65536 → (difference tick last ≡ 0 → ⊥)
    → (difference tick last ≡ difference last tick) ↔ Covers Half (difference tick last)
half_both_ways last tick a b n = (λ q. omega (arith, round last tick a b n), λ q. omega (arith, round last tick a b n))
