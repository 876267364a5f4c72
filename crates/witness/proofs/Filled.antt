-- What a job needs, and the array of needs, entry by entry.
-- Assumes nothing.
use mathlib.Core.Bool.{Bool, ◌&&◌, ◌||◌, false, not, true}
use mathlib.Core.List.{List}
use mathlib.Core.Path.{◌∙◌, ◌≡◌, ap, ap₂, refl, sym}
use Prim.Native.Nat.{◌+◌, ◌<◌, ◌≤◌, suc, zero, ℕ}
use native.Mathlib.Decide.{ℕ_discrete}
use native.Mathlib.Numerals.{add-one}
use native.Mathlib.Omega.{arith}
use borrow.Author.Tests.{eq-eqb, ne_eqb}
use lib.Dec.{eqb, leb}
use lib.ListN.{length, length-replicate, length-set, replicate, set}
use lib.Seq.{get_or-set_other, get_or-set_same}
use Rattle.basics.proofs.Choice.{pick_false, pick_true}
use Rattle.basics.specs.Marks.{no_switch}
use Rattle.basics.specs.Units.{units_of}
use Rattle.joblist.specs.Fields.{high, ordinary}
use Rattle.verdict.specs.Count.{entries_in, entry_at}
use Rattle.witness.specs.Needs.{ended, need_of, needs_to}

module _ (s lo : List ℕ) (x j : ℕ) where
  abbrev keeps : Bool
  keeps = eqb x no_switch || ended s lo x j

  -- with no switch each keeps to CLO; behind one, the job that switched does not, and another does where it had its CLO units
  pub keeps_first : x ≡ no_switch → true ≡ keeps
  keeps_first h = sym (ap (λ (b : Bool). b || ended s lo x j) (eq-eqb x no_switch h))

  module _ (h : ¬ (x ≡ no_switch)) where
    keeps_behind : keeps ≡ ended s lo x j
    keeps_behind = ap (λ (b : Bool). b || ended s lo x j) (ne_eqb x no_switch h)

    pub keeps_own : j ≡ entry_at lo x → false ≡ keeps
    unfolding ended
    keeps_own e = sym (keeps_behind ∙ ap (λ (b : Bool). not b && leb (ordinary s j) (entries_in lo j (x + 1))) (eq-eqb j (entry_at lo x) e))

    pub keeps_other : ¬ (j ≡ entry_at lo x) → leb (ordinary s j) (entries_in lo j (x + 1)) ≡ keeps
    unfolding ended
    keeps_other e = sym (keeps_behind ∙ ap (λ (b : Bool). not b && leb (ordinary s j) (entries_in lo j (x + 1))) (ne_eqb j (entry_at lo x) e))

  -- what it needs
  pub need_clo : true ≡ keeps → ordinary s j ≡ need_of s lo x j
  unfolding need_of
  need_clo e = sym (pick_true keeps (ordinary s j) (high s j) (sym e))

  pub need_chi : false ≡ keeps → high s j ≡ need_of s lo x j
  unfolding need_of
  need_chi e = sym (pick_false keeps (ordinary s j) (high s j) (sym e))

module _ (k : ℕ) (s lo : List ℕ) (x : ℕ) where
  pub needs_none : replicate k 0 ≡ needs_to k s lo x 0
  unfolding needs_to
  needs_none = refl

  pub needs_more : (needs : List ℕ) (n v : ℕ) → needs ≡ needs_to k s lo x n → v ≡ need_of s lo x n → set needs n v ≡ needs_to k s lo x (n + 1)
  unfolding needs_to
  needs_more needs n v a b = rw (add-one n) (ap₂ (λ (l : List ℕ) (y : ℕ). set l n y) a b)

  needs_length : (n : ℕ) → length (needs_to k s lo x n) ≡ k
  unfolding needs_to
  needs_length zero = length-replicate {A = ℕ} k 0
  needs_length (suc n) = length-set (needs_to k s lo x n) n (need_of s lo x n) ∙ needs_length n

  -- each job's entry
  pub needs_at : (n j : ℕ) → n ≤ k → j < n → units_of (needs_to k s lo x n) j ≡ need_of s lo x j
  unfolding needs_to
  needs_at zero j a b = absurd (omega arith)
  needs_at (suc n) j a b = go (ℕ_discrete j n) (λ h. needs_at n j (omega arith) h)
    where
      go : Dec (j ≡ n) → (j < n → units_of (needs_to k s lo x n) j ≡ need_of s lo x j) → units_of (set (needs_to k s lo x n) n (need_of s lo x n)) j ≡ need_of s lo x j
      go (yes p) rec =
          ap (units_of (set (needs_to k s lo x n) n (need_of s lo x n))) p ∙ get_or-set_same (needs_to k s lo x n) n (need_of s lo x n) 0 (omega (arith, needs_length n)) ∙ sym (ap (need_of s lo x) p)
      go (no p) rec = get_or-set_other (needs_to k s lo x n) n j (need_of s lo x n) 0 p ∙ rec (omega arith)
