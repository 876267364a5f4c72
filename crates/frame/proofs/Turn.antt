-- The search one turn at a time, as a loop wants it.
-- Assumes nothing.
use mathlib.Core.Bool.{Bool, false, true}
use mathlib.Core.Option.{Option, none, some}
use mathlib.Core.Path.{◌∙◌, ◌≡◌, ap, refl}
use Prim.Native.Nat.{suc, zero, ℕ}
use Rattle.frame.specs.Execution.{State, next_mode, step}
use Rattle.frame.specs.Jobs.{Frame}
use Rattle.frame.specs.Search.{Fault, Finding, Rest, fault_at, found, nothing, or_else, reaches_budget, scan, search_from, switch_at, switches, try_switch}

module _ (F : Frame) where
  pub scan_on : (c : ℕ → ℕ) (k t : ℕ) (s : State) → fault_at F c t s ≡ nothing → scan F c (suc k) t s ≡ scan F c k (suc t) (step F c t s)
  unfolding scan
  scan_on c k t s p = ap (λ (a : Finding). or_else a (scan F c k (suc t) (step F c t s))) p

  pub scan_stop : (c : ℕ → ℕ) (k t : ℕ) (s : State) (f : Fault) → fault_at F c t s ≡ found f → scan F c k t s ≡ found f
  unfolding scan
  scan_stop c zero t s f p = p
  scan_stop c (suc k) t s f p = ap (λ (a : Finding). or_else a (scan F c k (suc t) (step F c t s))) p

  pub switches_on : (r : Rest F) (k : ℕ) (c : ℕ → ℕ) (t : ℕ) (s : State) → switch_at F r k c t s (F.table s.mode t) ≡ nothing
      → switches F r (suc k) c t s ≡ switches F r k c (suc t) (step F c t s)
  unfolding switches
  switches_on r k c t s p = ap (λ (a : Finding). or_else a (switches F r k c (suc t) (step F c t s))) p

  -- nothing is found behind switches behind which nothing is found
  pub switches_none : (r : Rest F) → ((k : ℕ) (c : ℕ → ℕ) (t : ℕ) (s : State) → r k c t s ≡ nothing) → (k : ℕ) (c : ℕ → ℕ) (t : ℕ) (s : State) → switches F r k c t s ≡ nothing
  unfolding switches switch_at try_switch
  switches_none r h zero c t s = refl
  switches_none r h (suc k) c t s =
      ap (λ (a : Finding). or_else a (switches F r k c (suc t) (step F c t s))) (go (reaches_budget F c t s (F.table s.mode t)) (next_mode F (F.table s.mode t) s.mode))
      ∙ switches_none r h k c (suc t) (step F c t s)
    where
      go : (b : Bool) (o : Option ℕ) → try_switch F r k c t s (F.table s.mode t) b o ≡ nothing
      go false o = refl
      go true none = refl
      go true (some m) = h k _ (suc t) _

  or_right : (a : Finding) → or_else a nothing ≡ a
  or_right nothing = refl
  or_right (found f) = refl

  -- one mode more: the look after the last switch is a scan
  pub last_mode : (k : ℕ) (c : ℕ → ℕ) (t : ℕ) (s : State) → search_from F 1 k c t s ≡ scan F c k t s
  unfolding search_from
  last_mode k c t s =
      ap (or_else (scan F c k t s)) (switches_none (search_from F 0) (λ k c t s. refl) k c t s) ∙ or_right (scan F c k t s)
