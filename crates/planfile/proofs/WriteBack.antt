-- What is read is written again: a plan that the reader accepts is the plan of its parts.
-- Assumes nothing.
use Prim.Native.Nat.{ℕ, ◌+◌, ◌≤◌}
use mathlib.Core.Path.{◌≡◌, sym}
use mathlib.Core.List.{List, ◌++◌}
use native.Mathlib.Omega.{arith}
use lib.ListN.{length, take, take-append-drop}
use lib.Seq.{take-add}
use Rattle.std.specs.Prelude.{Ok}
use Rattle.basics.specs.Limits.{Limits}
use Rattle.basics.specs.Put.{put}
use Rattle.joblist.specs.Fields.{slots}
use Rattle.planfile.specs.Plan.{trailer_bytes, plan_of, low_at, list_of, low_of, high_of}
use Rattle.planfile.specs.Answer.{write_of, out_after}
use Rattle.planfile.specs.Round.{AllBytes, WritesBack}
use Rattle.planfile.proofs.Parts.{part_some}
use Rattle.planfile.proofs.Rows.{write_plan}
use Rattle.planfile.proofs.Accepted.{Read}
use Rattle.planfile.proofs.Trailer.{trailer_at}
use Rattle.planfile.proofs.Front.{front_length, list_size, low_size, high_size}

module _ (lim : Limits) (s : List ℕ) (r : Read lim s) (bytes : AllBytes s) where
  size : length s ≡ low_at s + slots s + slots s + trailer_bytes
  size = omega (arith, front_length lim s r.long r.front)

  -- the three parts, one after the other
  parts_join : list_of s ++ low_of s ++ high_of s ≡ take (low_at s + slots s + slots s) s
  parts_join =
      rw (part_some s 0 (low_at s) r.long, part_some s (low_at s) (slots s) r.long, part_some s (low_at s + slots s) (slots s) r.long, ← take-add (low_at s) (slots s) s, ← take-add (low_at s + slots s) (slots s) s)

  parts_length : length (list_of s) + length (low_of s) + length (high_of s) ≡ low_at s + slots s + slots s
  parts_length =
      rw (list_size lim s r.long r.front, low_size lim s r.long r.front, high_size lim s r.long r.front)

  pub plan_again : plan_of (list_of s) (low_of s) (high_of s) ≡ s
  unfolding plan_of
  plan_again =
      rw (parts_join, parts_length, ← trailer_at s bytes (low_at s + slots s + slots s) size r.back r.marked)
      (take-append-drop (low_at s + slots s + slots s) s)

  written : (out : List ℕ) → length s ≤ length out → (Ok (length (plan_of (list_of s) (low_of s) (high_of s))) ≡ write_of lim (list_of s) (low_of s) (high_of s) (length out)) × (put out 0 (plan_of (list_of s) (low_of s) (high_of s)) ≡ out_after lim (list_of s) (low_of s) (high_of s) out)
  written out h = write_plan lim (list_of s) (low_of s) (high_of s) out r.checked (rw plan_again h)

  pub plan_writes : WritesBack lim s
  plan_writes = record {
    same = plan_again;
    answer = λ out h. sym (rw plan_again at (written out h).0);
    bytes = λ out h. sym (rw plan_again at (written out h).1);
  }
