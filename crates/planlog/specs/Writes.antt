-- The byte writes of an append, in their order, and the store after the first of them.
-- Assumes nothing.
use Rattle.std.specs.Prelude.{ℕ, zero, suc, ◌+◌, ◌-◌, cond, List, [], ◌∷◌, ◌++◌, length, take, set, leb, Option, None, slice_get}
use Rattle.basics.specs.Limits.{Limits}
use Rattle.logwalk.specs.Walk.{last_end}
use Rattle.planlog.specs.declared.Write.{Write}

-- n zeros, from the place n - 1 past `end` back to `end`
unfoldable pub zeros : ℕ → ℕ → List Write
zeros end zero = []
zeros end (suc n) = record { place = end + n; byte = 0 } ∷ zeros end n

-- bytes from `at` on, forwards
unfoldable pub copies : ℕ → List ℕ → List Write
copies at [] = []
copies at (x ∷ xs) = record { place = at; byte = x } ∷ copies (suc at) xs

-- an append that puts the plan at `end`: zeros from the store's last byte back to there, then the plan forwards
unfoldable pub writes_at : ℕ → ℕ → List ℕ → List Write
writes_at size end plan = zeros end (size - end) ++ copies end plan

-- an append puts the plan at the end of the last whole one
unfoldable pub writes_of : Limits → List ℕ → List ℕ → List Write
writes_of lim s plan = writes_at (length s) (last_end lim s) plan

-- write k of them, where the plan fits; none past the last
unfoldable pub nth_write : ℕ → ℕ → List ℕ → ℕ → Option Write
nth_write size end plan k = cond (leb (end + length plan) size) (slice_get (writes_at size end plan) k) None

-- the store after one write, and after several
abbrev pub written : List ℕ → Write → List ℕ
written s w = set s w.place w.byte

unfoldable pub after : List ℕ → List Write → List ℕ
after s [] = s
after s (w ∷ ws) = after (written s w) ws

-- the store where power fails after k of the writes
unfoldable pub store_after : Limits → List ℕ → List ℕ → ℕ → List ℕ
store_after lim s plan k = after s (take k (writes_of lim s plan))
