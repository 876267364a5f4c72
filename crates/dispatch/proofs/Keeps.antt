-- What steps and runs keep: a refusal leaves what it says, no step changes the plan, and a halted dispatcher stays halted.
-- Assumes nothing.
use Prim.Native.Nat.{ℕ}
use mathlib.Core.Path.{◌≡◌, refl, ap}
use mathlib.Core.Bool.{Bool, true}
use mathlib.Core.List.{List, [], ◌∷◌}
use native.Mathlib.Omega.{arith}
use lib.ListN.{length, replicate}
use Rattle.std.specs.Prelude.{Err}
use Rattle.basics.specs.Limits.{Limits}
use Rattle.dispatch.specs.declared.state.State.{State}
use Rattle.machine.specs.Numbers.{Answer}
use Rattle.machine.specs.declared.answer.Why.{Why}
use Rattle.machine.specs.declared.answer.Why.TheVariants.{Halted}
use Rattle.parts.specs.Marks.{is_set}
use Rattle.machine.specs.Machine.{Ran, order_of, step_on}
use Rattle.dispatch.specs.State.{run_of, state_with, state_ok, step_of}
use Rattle.dispatch.specs.Runs.{Given, refused_of, answers_by, state_by, answers_of, state_of}
use Rattle.machine.proofs.Steps.{step_halted}
use Rattle.dispatch.proofs.Did.{Did, refused, taken, did}

module _ (lim : Limits) where
  module _ (s : State) (tick : ℕ) (e : Bool) where
    -- 31, 35 and 36 set the halted mark and change nothing else; every other refusal changes nothing
    pub refused_leaves : (w : Why) → (step_of lim s tick e).answer ≡ Err w → (step_of lim s tick e).state ≡ refused_of w s
    unfolding order_of
    refused_leaves w = go (step_on lim s.plan (run_of s) tick e) (did lim s.plan (run_of s) tick e)
      where
        go : (x : Ran) → Did lim s.plan (run_of s) tick e x → x.answer ≡ Err w → state_with s.plan x.run ≡ refused_of w s
        go x (refused {w = v} y) h = let q : v ≡ w = cc in ap (λ (u : Why). refused_of u s) q
        go x (taken a b c) h = let z : ◌≡◌ {A = ℕ} 0 1 = cc in absurd (omega arith)

    -- no step changes the plan
    pub plan_stays : (step_of lim s tick e).state.plan ≡ s.plan
    plan_stays = refl

  -- nor does a run
  pub plan_stays_run : (s : State) (r : List Given) → (state_of lim s r).plan ≡ s.plan
  unfolding state_by
  plan_stays_run s [] = refl
  plan_stays_run s (g ∷ r) = plan_stays_run (step_of lim s g.tick g.ended).state r

  -- once halted, every answer is 32 and nothing changes
  pub halted_stays : (s : State) → state_ok lim s ≡ true → is_set s.head.halted ≡ true → (r : List Given)
      → (answers_of lim s r ≡ replicate (length r) (Err Halted)) × (state_of lim s r ≡ s)
  unfolding answers_by state_by
  halted_stays s v h [] = (refl, refl)
  halted_stays s v h (g ∷ r) =
      let q = step_halted lim s.plan (run_of s) g.tick g.ended v h in
      rw (q) (let i = halted_stays s v h r in (ap (λ (l : List Answer). Err Halted ∷ l) i.0, i.1))
