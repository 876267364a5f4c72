-- The names of the fields, and what each can hold.
-- Assumes nothing.
use Rattle.std.specs.Prelude.{ℕ, List, codes}
use Rattle.basics.specs.Limits.{first_edition}
use Rattle.poke.specs.declared.field.Field.{Field}
use Rattle.poke.specs.declared.field.Field.TheVariants.{Slot, Tick, Length, Jobs, Edges, Ordered, High, Halted, Units, Arrival, Deadline, Clo, Chi, Done, Cut, Level, From, To, Lo, Hi}
use Rattle.poke.specs.declared.field.Kind.{Kind}

-- the name of a field
abbrev pub name_of : Field → List ℕ
name_of Slot = codes "slot"
name_of Tick = codes "tick"
name_of Length = codes "l"
name_of Jobs = codes "n"
name_of Edges = codes "m"
name_of Ordered = codes "ordered"
name_of High = codes "high"
name_of Halted = codes "halted"
name_of Units = codes "units"
name_of Arrival = codes "arrival"
name_of Deadline = codes "deadline"
name_of Clo = codes "clo"
name_of Chi = codes "chi"
name_of Done = codes "done"
name_of Cut = codes "cut"
name_of Level = codes "level"
name_of From = codes "from"
name_of To = codes "to"
name_of Lo = codes "lo"
name_of Hi = codes "hi"

-- how many places it has: one, or one for each job, edge or slot
abbrev pub places_of : Field → ℕ
places_of Units = first_edition.jobs
places_of Arrival = first_edition.jobs
places_of Deadline = first_edition.jobs
places_of Clo = first_edition.jobs
places_of Chi = first_edition.jobs
places_of Done = first_edition.jobs
places_of Cut = first_edition.jobs
places_of Level = first_edition.jobs
places_of From = first_edition.edges
places_of To = first_edition.edges
places_of Lo = first_edition.slots
places_of Hi = first_edition.slots
places_of f = 1

-- the largest value: of a byte, or of a word
abbrev pub most_of : Field → ℕ
most_of Ordered = 255
most_of High = 255
most_of Halted = 255
most_of Done = 255
most_of Cut = 255
most_of Level = 255
most_of From = 255
most_of To = 255
most_of Lo = 255
most_of Hi = 255
most_of f = 65535

abbrev pub kind_of : Field → Kind
kind_of f = record { places = places_of f; most = most_of f }
