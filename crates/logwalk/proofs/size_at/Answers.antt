-- The part that is read has the size that the counts give.
-- Assumes nothing.
use Rattle.std.proofs.Common.{◌≡◌, ◌<◌, length, ap, ◌∙◌, is_ok, arith}
use Rattle.std.specs.Bool.{then_some}
use Rattle.logwalk.specs.Walk.{size_of}
use Rattle.logwalk.proofs.Steps.{whole_beyond, whole_read}
use Rattle.logwalk.proofs.size_at.Goals as goal

pub returns-in_err-get : goal.returns-in_err-get
unfolding size_of
returns-in_err-get c =
    let rest = c.in_ok-rest.rest.now in
    let z : c.size-size.result ≡ size_of rest = rw c.in_ok-of.ensures.same at c.size-size.ensures.0 in
    let far : length rest < c.size-size.result = omega (arith, c.in_err-get.ensures.lookup) in
    c.from_residual-in_err-get.ensures ∙ whole_beyond _ _ _ rest c.in_ok-rest.ensures.lookup.0.2 _ z far

pub returns : goal.returns
unfolding size_of
returns c =
    let rest = c.in_ok-rest.rest.now in
    let z : c.size-size.result ≡ size_of rest = rw c.in_ok-of.ensures.same at c.size-size.ensures.0 in
    c.then_some.ensures ∙ ap (λ b. then_some b c.size-size.result) (c.is_ok.ensures.value ∙ ap is_ok c.read.ensures)
    ∙ (whole_read _ _ _ rest c.in_ok-rest.ensures.lookup.0.2 _ z _ c.in_ok-get.ensures.lookup.0.2)
