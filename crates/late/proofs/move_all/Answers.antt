-- One slot more has its turn.
-- Assumes nothing.
use Rattle.std.proofs.Common.{◌≡◌, ◌∙◌, sym, ap, arith, ◌-◌, ◌+◌, length}
use Rattle.joblist.specs.Fields.{slots}
use Rattle.late.specs.Late.{move, moved}
use Rattle.late.proofs.Moving.{moved_zero, moved_step}
use Rattle.late.proofs.move_all.Goals as goal

pub loop-own-init : goal.loop-own-init
loop-own-init c =
    let l = slots c.args.list.bytes.now in
    sym (ap (moved c.args.list.bytes.now c.args.table.now) (let z : l - length c.args.table.now ≡ 0 = omega arith in z) ∙ moved_zero _ _)

pub loop-own-preserved : goal.loop-own-preserved
loop-own-preserved c =
    let s = c.args.list.bytes.now in
    let own = c.loop-own.own in
    let k : slots s - (own - 1) ≡ slots s - own + 1 = omega arith in
    let e : own - 1 ≡ slots s - 1 - (slots s - own) = omega arith in
    c.move_one.ensures
    ∙ ap (λ t. move s t (own - 1)) c.loop-own.invariant
    ∙ ap (move s (moved s c.args.table.now (slots s - own))) e
    ∙ sym (ap (moved s c.args.table.now) k ∙ moved_step _ _ _)

pub returns : goal.returns
returns c =
    let s = c.args.list.bytes.now in
    let e : slots s - c.loop-own.own ≡ slots s = omega arith in
    c.loop-own.invariant ∙ ap (moved s c.args.table.now) e
