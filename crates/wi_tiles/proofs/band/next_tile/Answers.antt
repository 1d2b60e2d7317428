use Rattle.wi_tiles.proofs.Words.{arith}
use Rattle.wi_tiles.proofs.Keys.{key_read}
use Rattle.wi_tiles.proofs.LineLemmas.{searched_none, searched_all, searched_more, next_found}
use Rattle.wi_tiles.proofs.band.next_tile.Goals as goal

pub loop-place-init : goal.loop-place-init
loop-place-init g c = searched_none c.args.area c.args.tiles.now c.args.line c.args.column c.args.first c.requires.place

pub bits_in-requires-clause-left : goal.bits_in-requires-clause-left
bits_in-requires-clause-left g c = omega (arith, c.loop-place.invariant.right c.loop-place.place (omega arith) c.loop-place-test.true, key_read c.args.tiles.now c.loop-place.place c.index-tiles-place.result c.loop-place-test.true c.index-tiles-place.is)

pub bits_in-requires-clause-right : goal.bits_in-requires-clause-right
bits_in-requires-clause-right g c = omega (arith, c.requires.tiles.high c.loop-place.place c.loop-place-test.true, key_read c.args.tiles.now c.loop-place.place c.index-tiles-place.result c.loop-place-test.true c.index-tiles-place.is)

pub returns-then-left-ne0-clause-some : goal.returns-then-left-ne0-clause-some
returns-then-left-ne0-clause-some g c = next_found c.args.area c.args.tiles.now c.args.line c.args.column c.loop-place.place c.bits_of-left.result c.bits_in.result c.index-tiles-place.result c.requires.tiles c.requires.line c.loop-place-test.true c.index-tiles-place.is c.loop-place.invariant c.bits_in.ensures.sound c.bits_in.ensures.whole c.bits_of-left.ensures.sound c.bits_of-left.ensures.whole c.if-left-ne0.true

pub loop-place-preserved : goal.loop-place-preserved
loop-place-preserved g c = searched_more c.args.area c.args.tiles.now c.args.line c.args.column c.loop-place.place c.bits_of-left.result c.bits_in.result c.index-tiles-place.result c.requires.tiles c.requires.line c.loop-place-test.true c.index-tiles-place.is c.loop-place.invariant c.bits_in.ensures.sound c.bits_in.ensures.whole c.bits_of-left.ensures.sound c.bits_of-left.ensures.whole c.if-left-ne0.false

pub returns-clause-none : goal.returns-clause-none
returns-clause-none g c = searched_all c.args.area c.args.tiles.now c.args.line c.args.column c.loop-place.place c.loop-place-test.false c.loop-place.invariant
