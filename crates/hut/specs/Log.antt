-- What C is handed of the log: an answer beside where the plan stands in the store, and one byte to write.
-- Assumes nothing.
use Rattle.std.specs.Prelude.{ℕ, Option, Some, None, Result, Ok, Err}
use Rattle.logwalk.specs.Numbers.{found_number}
use Rattle.logwalk.specs.declared.FindWhy.{FindWhy}
use Rattle.logwalk.specs.declared.Span.{Span}
use Rattle.planlog.specs.Numbers.{append_number, append_place}
use Rattle.planlog.specs.declared.AppendWhy.{AppendWhy}
use Rattle.planlog.specs.declared.Write.{Write}
use Rattle.hut.specs.declared.Answer.{Answer}
use Rattle.hut.specs.declared.LogAnswer.{LogAnswer}
use Rattle.hut.specs.declared.LogByte.{LogByte}
use Rattle.hut.specs.Answer.{absent, nowhere, spot_place, says}

-- no plan stands anywhere
abbrev pub absent_span : Span
absent_span = record { start = absent; size = absent }

-- where a plan of so many bytes stands once it is appended
abbrev pub appended_span : Result ℕ AppendWhy → ℕ → Span
appended_span (Ok x) bytes = record { start = x; size = bytes }
appended_span (Err w) bytes = absent_span

-- where a plan was found
abbrev pub found_span : Result Span FindWhy → Span
found_span (Ok p) = p
found_span (Err w) = absent_span

-- an answer beside a plan's place in the store
abbrev pub log_answer : Answer → Span → LogAnswer
log_answer a p = record { answer = a; at = p.start; bytes = p.size }

-- an append of so many bytes, and where it would put them
unfoldable pub append_answer : Result ℕ AppendWhy → ℕ → LogAnswer
append_answer a bytes = log_answer (says (append_number a) (spot_place (append_place a))) (appended_span a bytes)

-- a plan looked for: a refusal has no place
unfoldable pub found_answer : Result Span FindWhy → LogAnswer
found_answer f = log_answer (says (found_number f) nowhere) (found_span f)

-- one byte written; none is a place past the store, which has so many bytes
unfoldable pub log_byte : ℕ → Option Write → LogByte
log_byte size (Some w) = record { place = w.place; byte = w.byte }
log_byte size None = record { place = size; byte = 0 }
