use Rattle.wi_tiles.proofs.Words.{arith, ◌≤◌, ◌/◌, column_of}
use Rattle.wi_tiles.proofs.BareLemmas.{bare_past, bare_before, bare_bits}
use Rattle.wi_tiles.proofs.Keys.{key_read}
use Rattle.wi_tiles.proofs.bare.are_bare.Goals as goal

pub returns-then-parts-place : goal.returns-then-parts-place
returns-then-parts-place g c = λ t. bare_past c.args.parts.now c.args.area c.place_from-place.result c.requires.rises c.place_from-place.ensures.bound (λ i l. omega (arith, c.place_from-place.ensures.below i l, c.column.ensures.value)) c.if-parts-place.true

pub returns-then-group-part : goal.returns-then-group-part
returns-then-group-part g c = λ t. bare_before c.args.parts.now c.args.area c.place_from-place.result c.requires.rises c.place_from-place.ensures.bound (λ i l. omega (arith, c.place_from-place.ensures.below i l, c.column.ensures.value))
    c.index-parts-place.result c.if-parts-place.false c.index-parts-place.is (omega (arith, c.if-group-part.true, c.column-group.ensures.value))

pub returns : goal.returns
returns g c =
    let here : column_of c.args.area.first / 4 ≤ c.index-parts-place.result.0 = omega (arith, c.place_from-place.ensures.above c.place_from-place.result (omega arith) c.if-parts-place.false, key_read c.args.parts.now c.place_from-place.result c.index-parts-place.result c.if-parts-place.false c.index-parts-place.is, c.column.ensures.value) in
    λ none. bare_bits c.args.parts.now c.args.area c.place_from-place.result c.requires.rises c.place_from-place.ensures.bound (λ i l. omega (arith, c.place_from-place.ensures.below i l, c.column.ensures.value))
    c.index-parts-place.result c.if-parts-place.false c.index-parts-place.is c.args.mask c.bits_of.result (omega (arith, c.if-group-part.false, c.if-part-group.false, c.column-group.ensures.value)) here c.requires.mask c.bits_of.ensures.whole none
