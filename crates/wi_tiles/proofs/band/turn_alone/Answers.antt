use Rattle.wi_tiles.proofs.Words.{rules, arith, ◌≡◌, ◌<◌, ◌+◌, ◌*◌, ◌/◌, true, min, ◌==◌, eqb-true, place, row_of}
use Rattle.wi_tiles.proofs.Firsts.{first_bit}
use Rattle.wi_tiles.proofs.TurnLemmas.{group_within, turn_alone, none_alone}
use Rattle.wi_tiles.proofs.band.turn_alone.Goals as goal

pub bits_in-mask-requires-clause-left : goal.bits_in-mask-requires-clause-left
bits_in-mask-requires-clause-left g c = omega (arith, c.requires.first, group_within c.args.tiles.now c.args.area c.index-tiles-0.result c.requires.tiles c.requires.alone c.index-tiles-0.is)

pub bits_in-mask-requires-clause-right : goal.bits_in-mask-requires-clause-right
bits_in-mask-requires-clause-right g c = (group_within c.args.tiles.now c.args.area c.index-tiles-0.result c.requires.tiles c.requires.alone c.index-tiles-0.is).1

pub at-requires-clause-column_within : goal.at-requires-clause-column_within
at-requires-clause-column_within g c = omega (arith, group_within c.args.tiles.now c.args.area c.index-tiles-0.result c.requires.tiles c.requires.alone c.index-tiles-0.is)

pub returns-then-left-eq0-clause-none : goal.returns-then-left-eq0-clause-none
returns-then-left-eq0-clause-none g c =
    let last : c.min-last.result ≡ min (row_of c.args.area.last) (c.args.row / 16 * 16 + 15) = search rules in
    let sheet : row_of c.args.area.last < 1048576 = search rules in
    let small : c.bits_of-left.result < 18446744073709551616 = search rules in
    none_alone c.args.tiles.now c.args.area c.args.row c.args.column c.min-last.result c.bits_of-left.result 0 c.args.row c.bits_in-mask.result 0 0 true c.index-tiles-0.result c.requires.tiles c.requires.alone c.requires.top c.requires.bottom sheet last c.requires.first small c.index-tiles-0.is c.bits_in-mask.ensures.sound c.bits_in-mask.ensures.whole c.bits_of-left.ensures.sound c.bits_of-left.ensures.whole c.if-left-eq0.true

pub returns-clause-some : goal.returns-clause-some
returns-clause-some g c =
    let last : c.min-last.result ≡ min (row_of c.args.area.last) (c.args.row / 16 * 16 + 15) = search rules in
    let sheet : row_of c.args.area.last < 1048576 = search rules in
    let small : c.bits_of-left.result < 18446744073709551616 = search rules in
    let at : c.at.result ≡ place c.args.row (c.index-tiles-0.result.0 * 4) = search rules in
    turn_alone c.args.tiles.now c.args.area c.args.row c.args.column c.min-last.result c.bits_of-left.result c.count_before.result c.at.result c.bits_in-mask.result c.bits_of-all.result c.lines_between.result (c.bits_of-all.result == c.bits_of-left.result) c.index-tiles-0.result c.requires.tiles c.requires.alone c.requires.top c.requires.bottom sheet last c.requires.first small c.index-tiles-0.is c.bits_in-mask.ensures.sound c.bits_in-mask.ensures.whole c.bits_of-left.ensures.sound c.bits_of-left.ensures.whole at c.if-left-eq0.false c.count_before.ensures (λ t. eqb-true c.bits_of-all.result c.bits_of-left.result t) c.lines_between.ensures c.bits_of-all.ensures.whole

pub count_before-requires : goal.count_before-requires
count_before-requires g c =
    let small : c.bits_of-left.result < 18446744073709551616 = search rules in
    (first_bit c.bits_of-left.result c.if-left-eq0.false small).0
