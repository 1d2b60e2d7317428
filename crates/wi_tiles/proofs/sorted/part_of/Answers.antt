use Rattle.wi_tiles.proofs.Words.{sym, arith}
use Rattle.wi_tiles.proofs.Keys.{find_beyond, find_at, just_above}
use Rattle.wi_tiles.proofs.sorted.part_of.Goals as goal

pub returns-then-parts-place : goal.returns-then-parts-place
returns-then-parts-place g c = sym (find_beyond c.args.parts.now c.place_from-place.result c.args.group c.place_from-place.ensures.bound c.place_from-place.ensures.below (λ i l q. omega (arith, l, q, c.if-parts-place.true)))

pub returns-then-part-group : goal.returns-then-part-group
returns-then-part-group g c = sym (find_beyond c.args.parts.now c.place_from-place.result c.args.group c.place_from-place.ensures.bound c.place_from-place.ensures.below (just_above c.args.parts.now c.place_from-place.result c.args.group c.index-parts-place.result c.requires c.if-parts-place.false c.index-parts-place.is c.if-part-group.true c.place_from-place.ensures.above))

pub returns : goal.returns
returns g c = sym (find_at c.args.parts.now c.place_from-place.result c.args.group c.index-parts-place.result c.if-parts-place.false c.index-parts-place.is c.if-part-group.false c.place_from-place.ensures.below)
