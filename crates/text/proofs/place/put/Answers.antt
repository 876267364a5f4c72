use Rattle.std.proofs.Common.{sym, ◌∙◌, arith, ◌≡◌, ◌+◌, ◌-◌, length}
use Rattle.text.specs.Place.{put_in, next_at}
use Rattle.text.proofs.Copying.{copied}
use Rattle.text.proofs.place.put.Goals as goal

pub returns-then-fits : goal.returns-then-fits
unfolding put_in next_at
returns-then-fits c =
    let e = sym c.fits.ensures ∙ c.if-fits.true in
    let k : (c.args.at + length c.args.s.now) - c.args.at ≡ length c.args.s.now = omega arith in
    (rw e, rw (e, c.copy_from_slice.ensures.after, k) (copied c.args.out.now c.args.s.now c.args.at))
