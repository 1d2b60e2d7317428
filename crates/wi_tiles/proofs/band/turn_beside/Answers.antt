use Rattle.wi_tiles.proofs.Words.{rules, arith, ◌≡◌, ◌<◌, ◌+◌, ◌*◌, ◌/◌, min, place, row_of, column_of}
use Rattle.wi_tiles.proofs.Firsts.{first_bit}
use Rattle.wi_tiles.proofs.TurnLemmas.{passed_start, passed_next, passed_end, group_small, turn_beside}
use Rattle.wi_tiles.proofs.band.turn_beside.Goals as goal

pub loop-row-init : goal.loop-row-init
loop-row-init g c = passed_start c.args.tiles.now c.args.area c.args.from c.args.side c.args.first c.requires.left c.requires.right c.requires.place

pub next_tile-requires-clause-place : goal.next_tile-requires-clause-place
next_tile-requires-clause-place g c = c.loop-row.invariant.places

pub overflow_mul-part : goal.overflow_mul-part
overflow_mul-part g c = omega (arith, group_small c.args.tiles.now c.args.area c.in-Some.next.0 c.index-tiles-next.result c.requires.tiles c.in-Some.ensures.some.within c.index-tiles-next.is)

pub at-requires-clause-column_within : goal.at-requires-clause-column_within
at-requires-clause-column_within g c = omega (arith, group_small c.args.tiles.now c.args.area c.in-Some.next.0 c.index-tiles-next.result c.requires.tiles c.in-Some.ensures.some.within c.index-tiles-next.is)

pub overflow_mul-result : goal.overflow_mul-result
overflow_mul-result g c = omega (arith, group_small c.args.tiles.now c.args.area c.in-Some.next.0 c.index-tiles-next.result c.requires.tiles c.in-Some.ensures.some.within c.index-tiles-next.is)

pub overflow_add-result : goal.overflow_add-result
overflow_add-result g c = omega (arith, group_small c.args.tiles.now c.args.area c.in-Some.next.0 c.index-tiles-next.result c.requires.tiles c.in-Some.ensures.some.within c.index-tiles-next.is)

pub returns-in-Some-clause-some : goal.returns-in-Some-clause-some
returns-in-Some-clause-some g c =
    let below : c.min-below.result ≡ min (c.args.from / 16 * 16 + 16) (row_of c.args.area.last + 1) = search rules in
    let small : c.in-Some.next.1 < 18446744073709551616 = search rules in
    let at : c.at.result ≡ place c.loop-row.row (c.index-tiles-next.result.0 * 4) = search rules in
    turn_beside c.args.tiles c.args.area c.args.from c.args.side c.loop-row.row c.loop-row.column c.loop-row.place c.in-Some.next.0 c.in-Some.next.1 c.count_before.result c.min-below.result c.at.result c.index-tiles-next.result c.requires.tiles below c.requires.sheet c.requires.top c.loop-row-test.true c.loop-row.invariant c.in-Some.ensures.some small c.count_before.ensures c.index-tiles-next.is at

pub loop-row-preserved : goal.loop-row-preserved
loop-row-preserved g c =
    let left : c.column-left.result ≡ column_of c.args.area.first = search rules in
    passed_next c.args.tiles.now c.args.area c.args.from c.args.side c.loop-row.row c.loop-row.column c.loop-row.place c.column-left.result c.requires.tiles left c.loop-row.invariant c.in-None.ensures.none

pub returns-clause-none : goal.returns-clause-none
returns-clause-none g c =
    let below : c.min-below.result ≡ min (c.args.from / 16 * 16 + 16) (row_of c.args.area.last + 1) = search rules in
    passed_end c.args.tiles.now c.args.area c.args.from c.args.side c.loop-row.row c.loop-row.column c.loop-row.place c.min-below.result below c.requires.sheet c.loop-row-test.false c.loop-row.invariant

pub count_before-requires : goal.count_before-requires
count_before-requires g c =
    let small : c.in-Some.next.1 < 18446744073709551616 = search rules in
    (first_bit c.in-Some.next.1 c.in-Some.ensures.some.some small).0
