-- Equal parts make equal answers: a law over plain variables, so that a proof only cites it.
-- Assumes nothing.
use Prim.Native.Nat.{ℕ}
use mathlib.Core.Path.{◌≡◌}
use Rattle.hut.specs.declared.Answer.{Answer}
use Rattle.hut.specs.declared.Place.{Place}

-- an answer by its four parts
abbrev answer_of : ℕ → Place → ℕ → ℕ → Answer
answer_of n p o l = record { number = n; place = p; order = o; length = l }

pub same_parts : (n m : ℕ) (p q : Place) (o x l k : ℕ) → n ≡ m → p ≡ q → o ≡ x → l ≡ k → answer_of n p o l ≡ answer_of m q x k
same_parts n m p q o x l k e f g h = cc
