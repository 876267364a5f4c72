use Rattle.std.proofs.Common.{arith, ◌≡◌, ◌*◌, ◌+◌, ◌-◌, ◌/◌, length, length-drop, ap, sym, ◌∙◌}
use Rattle.basics.specs.Put.{put}
use Rattle.basics.proofs.Put.{put_none}
use Rattle.text.specs.Hex.{bytes_of, worth}
use Rattle.text.proofs.Digits.{bytes_turn, digit_at}
use Rattle.text.proofs.Slices.{pair_of}
use Rattle.text.proofs.hex.unspell.Goals as goal

pub loop-i-init : goal.loop-i-init
unfolding bytes_of
loop-i-init c =
    let from = c.into_iter-i-iterator.ensures.into_iter_gives in
    rw (from, c.enumerate-i-items.ensures.source, c.enumerate-i-items.ensures.count) (record {
      bytes = put_none _ _ c.args.s.now;
      within = omega arith;
      left = c.chunks_exact.ensures.rest;
      pairs = c.chunks_exact.ensures.size;
    })

pub overflow_mul-out : goal.overflow_mul-out
overflow_mul-out c =
    let h = rw c.in-Some.is at c.next.ensures.steps in
    let p = pair_of c.args.s.now c.in-Some.pair.now _ c.loop-i.i-iterator.count c.loop-i.invariant.within (sym c.loop-i.invariant.left ∙ h.0.1.0) (h.0.1.1 ∙ c.loop-i.invariant.pairs) in
    omega (arith, digit_at c.args.s.now (2 * c.loop-i.i-iterator.count) c.requires.0 (omega (arith, p.within)), c.worth_of.ensures ∙ ap worth p.first)

pub overflow_add-out : goal.overflow_add-out
overflow_add-out c =
    let h = rw c.in-Some.is at c.next.ensures.steps in
    let p = pair_of c.args.s.now c.in-Some.pair.now _ c.loop-i.i-iterator.count c.loop-i.invariant.within (sym c.loop-i.invariant.left ∙ h.0.1.0) (h.0.1.1 ∙ c.loop-i.invariant.pairs) in
    let first = digit_at c.args.s.now (2 * c.loop-i.i-iterator.count) c.requires.0 (omega (arith, p.within)) in
    let second = digit_at c.args.s.now (2 * c.loop-i.i-iterator.count + 1) c.requires.0 (omega (arith, p.within)) in
    omega (arith, first, second, c.worth_of.ensures ∙ ap worth p.first, c.worth_of-in-loop-i.ensures ∙ ap worth p.second)

pub loop-i-preserved : goal.loop-i-preserved
loop-i-preserved c =
    let h = rw c.in-Some.is at c.next.ensures.steps in
    let p = pair_of c.args.s.now c.in-Some.pair.now c.next.new.self.iter.rest.now c.loop-i.i-iterator.count c.loop-i.invariant.within (sym c.loop-i.invariant.left ∙ h.0.1.0) (h.0.1.1 ∙ c.loop-i.invariant.pairs) in
    rw (h.2, h.1, c.loop-i.invariant.bytes) (record {
      bytes = bytes_turn c.args.out.now c.args.at c.args.s.now c.loop-i.i-iterator.count _ _ (omega (arith, p.within)) (c.worth_of.ensures ∙ ap worth p.first) (c.worth_of-in-loop-i.ensures ∙ ap worth p.second);
      within = omega (arith, p.within);
      left = p.left;
      pairs = h.0.0 ∙ c.loop-i.invariant.pairs;
    })

pub returns : goal.returns
returns c =
    let h = rw c.in-None.is at c.next.ensures.steps in
    let left : length c.loop-i.i-iterator.iter.rest.now ≡ length c.args.s.now - 2 * c.loop-i.i-iterator.count = ap length c.loop-i.invariant.left ∙ length-drop _ c.args.s.now in
    let all : c.loop-i.i-iterator.count ≡ length c.args.s.now / 2 = omega (arith, h.0.1.0, c.loop-i.invariant.pairs, c.loop-i.invariant.within, left) in
    c.loop-i.invariant.bytes ∙ ap (λ k. put c.args.out.now c.args.at (bytes_of c.args.s.now k)) all
