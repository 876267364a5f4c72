-- The limit lies in the frame, and so does the target.
-- Assumes nothing.
use Rattle.std.proofs.Common.{◌≡◌, arith}
use Rattle.basics.specs.Limits.{first_edition}
use Rattle.joblist.specs.Fields.{deadline}
use Rattle.joblist.proofs.Accepted.{deadline_in_frame}
use Rattle.late.specs.Late.{holds_next, target}
use Rattle.late.proofs.Moving.{lowest_most, target_most}
use Rattle.late.proofs.target_of.Goals as goal

pub highest_empty-requires : goal.highest_empty-requires
highest_empty-requires c =
    let a = c.args in
    let d = deadline_in_frame first_edition a.list.bytes.now a.list.accepted a.j (omega arith) in
    omega (arith, c.limit_of-b.ensures, lowest_most (holds_next a.list.bytes.now a.table.now a.j) (deadline a.list.bytes.now a.j))

pub returns : goal.returns
unfolding target
returns c =
    let a = c.args in
    let e : c.highest_empty.result ≡ target a.list.bytes.now a.table.now a.j a.t = rw (← c.limit_of-b.ensures) c.highest_empty.ensures in
    (e, omega (arith, e, target_most first_edition a.list.bytes.now a.table.now a.j a.t a.list.accepted (omega arith) (omega arith)))
