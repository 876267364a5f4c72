-- What a cut of power leaves, as statements.
-- Assumes nothing.
use Rattle.std.specs.Prelude.{ℕ, suc, ◌+◌, ◌-◌, ◌≤◌, ◌<◌, ◌≡◌, List, [], ◌∷◌, ◌++◌, length, take, drop, replicate, Some, None, Ok}
use Rattle.basics.specs.Limits.{Limits}
use Rattle.logwalk.specs.Walk.{end_of, walk, last_end}
use Rattle.logwalk.specs.Answer.{bytes_of, newest_of}
use Rattle.logwalk.specs.declared.Span.{Span}
use Rattle.planlog.specs.Writes.{writes_of, nth_write, written}
use Rattle.planlog.specs.Answer.{append_of, cut_store, appended_store}
use Rattle.planlog.specs.declared.Write.{Write}

-- the plan that an append puts into the store
abbrev pub new_span : Limits → List ℕ → List ℕ → Span
new_span lim s plan = record { start = last_end lim s; size = length plan }

-- the store t has the size of s, and every byte before the end of the last whole plan is as it was: so is every plan there
pub record Kept (lim : Limits) (s t : List ℕ) : Type 0 where
  pub size : length t ≡ length s
  pub bytes : take (last_end lim s) t ≡ take (last_end lim s) s
  pub each : (p : Span) → end_of p ≤ last_end lim s → bytes_of t p ≡ bytes_of s p

-- the walk over t finds the old plans, so that the newest is the old one; every append answers as it did, and one that says yes leaves the store that it would have left
pub record Old (lim : Limits) (s t : List ℕ) : Type 0 where
  pub kept : Kept lim s t
  pub plans : walk lim t ≡ walk lim s
  pub newest : newest_of lim t ≡ newest_of lim s
  pub again : (q : List ℕ) → append_of lim t q ≡ append_of lim s q
  pub traceless : (q : List ℕ) (x : ℕ) → append_of lim s q ≡ Ok x → appended_store lim t q ≡ appended_store lim s q

-- it finds one plan more, the newest, whose bytes are those given; zeros are behind it
pub record New (lim : Limits) (s plan t : List ℕ) : Type 0 where
  pub kept : Kept lim s t
  pub plans : walk lim t ≡ walk lim s ++ (new_span lim s plan ∷ [])
  pub newest : newest_of lim t ≡ Ok (new_span lim s plan)
  pub bytes : bytes_of t (new_span lim s plan) ≡ plan
  pub behind : drop (end_of (new_span lim s plan)) t ≡ replicate (length s - end_of (new_span lim s plan)) 0

-- an append, whatever the write after which power fails: before the last one the old plan is the newest, and from then on the new one is
pub record Safe (lim : Limits) (s plan : List ℕ) : Type 0 where
  pub before : (k : ℕ) → k < length (writes_of lim s plan) → Old lim s (cut_store lim s plan k)
  pub from : (k : ℕ) → length (writes_of lim s plan) ≤ k → New lim s plan (cut_store lim s plan k)
  pub whole : New lim s plan (appended_store lim s plan)

-- write k of an append at x: it is within the store, and leaves what a cut right behind it leaves
pub record Next (lim : Limits) (s plan : List ℕ) (x k : ℕ) : Type 0 where
  pub write : Write
  pub is : nth_write (length s) x plan k ≡ Some write
  pub within : write.place < length s
  pub leaves : cut_store lim s plan (suc k) ≡ written (cut_store lim s plan k) write

-- the writes of an append at x made one after the other, and behind the last there is none
pub record OneByOne (lim : Limits) (s plan : List ℕ) (x : ℕ) : Type 0 where
  pub none : cut_store lim s plan 0 ≡ s
  pub next : (k : ℕ) → k < length s - x + length plan → Next lim s plan x k
  pub over : (k : ℕ) → length s - x + length plan ≤ k → nth_write (length s) x plan k ≡ None
  pub whole : cut_store lim s plan (length s - x + length plan) ≡ appended_store lim s plan
