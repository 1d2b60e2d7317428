use Rattle.wi_tiles.proofs.Words.{rules, arith, ◌≡◌, ◌+◌, ◌*◌, ◌/◌, IfSome_then, place, column_of}
use Rattle.wi_tiles.proofs.TurnLemmas.{goes_beside, band_beside, turn_earlier, none_earlier, before_row}
use Rattle.wi_tiles.proofs.WalkLemmas.{none_then}
use Rattle.wi_tiles.proofs.found.turn_apart.Goals as goal

pub turn_beside-requires-clause-tiles : goal.turn_beside-requires-clause-tiles
turn_beside-requires-clause-tiles g c = (goes_beside c.args.area c.args.row c.args.column c.args.tiles c.in-Some.tiles c.args.first c.in-Some.is c.requires.goes).1

pub turn_beside-requires-clause-top : goal.turn_beside-requires-clause-top
turn_beside-requires-clause-top g c = c.requires.goes.top

pub turn_beside-requires-clause-sheet : goal.turn_beside-requires-clause-sheet
turn_beside-requires-clause-sheet g c = (goes_beside c.args.area c.args.row c.args.column c.args.tiles c.in-Some.tiles c.args.first c.in-Some.is c.requires.goes).0

pub turn_beside-requires-clause-left : goal.turn_beside-requires-clause-left
turn_beside-requires-clause-left g c = c.requires.goes.left

pub turn_beside-requires-clause-right : goal.turn_beside-requires-clause-right
turn_beside-requires-clause-right g c = c.requires.goes.right

pub turn_beside-requires-clause-place : goal.turn_beside-requires-clause-place
turn_beside-requires-clause-place g c = (goes_beside c.args.area c.args.row c.args.column c.args.tiles c.in-Some.tiles c.args.first c.in-Some.is c.requires.goes).2

pub returns-in-Some-turn_beside-clause-some : goal.returns-in-Some-turn_beside-clause-some
returns-in-Some-turn_beside-clause-some g c = c.in-Some-turn_beside.ensures.some c.args.pages.now (band_beside c.args.pages.now c.args.area c.args.row c.args.tiles c.in-Some.tiles c.in-Some.is c.requires.band)

pub returns-in-None-turn_beside-clause-some : goal.returns-in-None-turn_beside-clause-some
returns-in-None-turn_beside-clause-some g c =
    let left : c.column.result ≡ column_of c.args.area.first = search rules in
    let none = c.in-None-turn_beside.ensures.none c.args.pages.now (band_beside c.args.pages.now c.args.area c.args.row c.args.tiles c.in-Some.tiles c.in-Some.is c.requires.band) in
    IfSome_then c.turn_below.result c.turn_below.ensures.some (λ t.
    turn_earlier c.args.pages.now c.args.area (place c.args.row c.args.column) (place (c.args.row / 16 * 16 + 16) c.column.result) t.tile.now t.corner t.left t.before t.whole t.row t.column t.tiles t.first (omega (arith, c.requires.goes.right))
    (before_row c.args.pages.now c.args.area (place c.args.row c.args.column) (c.args.row / 16 * 16 + 16) c.column.result left none))

pub returns-in-None-turn_beside-clause-none : goal.returns-in-None-turn_beside-clause-none
returns-in-None-turn_beside-clause-none g c =
    let left : c.column.result ≡ column_of c.args.area.first = search rules in
    let none = c.in-None-turn_beside.ensures.none c.args.pages.now (band_beside c.args.pages.now c.args.area c.args.row c.args.tiles c.in-Some.tiles c.in-Some.is c.requires.band) in
    none_then c.turn_below.result c.turn_below.ensures.none
    (none_earlier c.args.pages.now c.args.area (place c.args.row c.args.column) (place (c.args.row / 16 * 16 + 16) c.column.result) (before_row c.args.pages.now c.args.area (place c.args.row c.args.column) (c.args.row / 16 * 16 + 16) c.column.result left none))
