-- Bytes put into a buffer.
-- Assumes nothing.
use Rattle.std.specs.Prelude.{ℕ, ◌+◌, List, ◌++◌, length, take, drop}

-- d with v in the place of the bytes from `at` on, as many as v has
unfoldable pub put : List ℕ → ℕ → List ℕ → List ℕ
put d at v = take at d ++ v ++ drop (at + length v) d
