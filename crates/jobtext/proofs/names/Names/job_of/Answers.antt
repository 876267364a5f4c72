use Rattle.std.proofs.Common.{◌≡◌, List, [], ◌∷◌, map, Bool, cond, ◌+◌, not, ap, refl, sym, ◌∙◌, rules, tests}
use Rattle.std.specs.List.{position, prefix_len}
use Rattle.std.specs.Str.{bytes_eq}
use Rattle.std.proofs.lemmas.List.{length-map}
use Rattle.std.proofs.lemmas.Iterator.{YieldsList-from_slice}
use Rattle.std.proofs.lemmas.Iterator.Search.{position_from_yields_List}
use Rattle.jobtext.specs.Names.{bytes_in}
use Rattle.jobtext.proofs.names.Names.job_of.Goals as goal

prefix_len-map : {X Y : Type 0} (p : Y → Bool) (h : X → Y) (xs : List X) → prefix_len p (map h xs) ≡ prefix_len (λ x. p (h x)) xs
prefix_len-map p h [] = refl
prefix_len-map p h (x ∷ xs) = ap (λ n. cond (p (h x)) (1 + n) 0) (prefix_len-map p h xs)

position-map : {X Y : Type 0} (p : Y → Bool) (h : X → Y) (xs : List X) → position p (map h xs) ≡ position (λ x. p (h x)) xs
position-map p h xs = rw (prefix_len-map (λ y. not (p y)) h xs, length-map xs h)

pub returns : goal.returns
returns c =
    let found = position_from_yields_List (λ t. bytes_eq (bytes_in t) c.args.name.now) _ _ c.position.result c.position.ensures.ran (YieldsList-from_slice _ c.iter.ensures.rest) (λ x b q k. search (rules, tests)) in
    found ∙ sym (position-map (λ n. bytes_eq n c.args.name.now) bytes_in _)
