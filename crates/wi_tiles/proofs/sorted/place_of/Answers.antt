use Rattle.wi_tiles.proofs.Words.{arith, ◌∙◌, ◌<◌, ◌≤◌, ℕ, length, key}
use Rattle.wi_tiles.proofs.Keys.{key_read, find_beyond, just_above}
use Rattle.wi_tiles.proofs.sorted.place_of.Goals as goal

pub returns-then-parts-place-clause-none : goal.returns-then-parts-place-clause-none
returns-then-parts-place-clause-none g c =
    let above : (i : ℕ) → c.place_from-place.result ≤ i → i < length c.args.parts.now → c.args.group < key c.args.parts.now i = λ i l q. omega (arith, l, q, c.if-parts-place.true) in
    (record { bound = c.place_from-place.ensures.bound; below = c.place_from-place.ensures.below; above = above }, find_beyond c.args.parts.now c.place_from-place.result c.args.group c.place_from-place.ensures.bound c.place_from-place.ensures.below above)

pub returns-then-part-group-clause-none : goal.returns-then-part-group-clause-none
returns-then-part-group-clause-none g c =
    let above : (i : ℕ) → c.place_from-place.result ≤ i → i < length c.args.parts.now → c.args.group < key c.args.parts.now i = just_above c.args.parts.now c.place_from-place.result c.args.group c.index-parts-place.result c.requires c.if-parts-place.false c.index-parts-place.is c.if-part-group.true c.place_from-place.ensures.above in
    (record { bound = c.place_from-place.ensures.bound; below = c.place_from-place.ensures.below; above = above }, find_beyond c.args.parts.now c.place_from-place.result c.args.group c.place_from-place.ensures.bound c.place_from-place.ensures.below above)

pub returns-clause-ok : goal.returns-clause-ok
returns-clause-ok g c = (c.if-parts-place.false, key_read c.args.parts.now c.place_from-place.result c.index-parts-place.result c.if-parts-place.false c.index-parts-place.is ∙ c.if-part-group.false)
