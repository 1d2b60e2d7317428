use Rattle.wi_tiles.proofs.Words.{rules, refl, ◌≡◌, ◌<◌, length}
use Rattle.wi_tiles.proofs.TurnLemmas.{none_empty}
use Rattle.wi_tiles.proofs.band.turn_among.Goals as goal

pub turn_alone-requires-clause-alone : goal.turn_alone-requires-clause-alone
turn_alone-requires-clause-alone g c = (c.if-is_alone.ensures refl).0

pub turn_alone-requires-clause-first : goal.turn_alone-requires-clause-first
turn_alone-requires-clause-first g c = (c.if-is_alone.ensures refl).1

pub returns-then-is_empty-clause-none : goal.returns-then-is_empty-clause-none
returns-then-is_empty-clause-none g c =
    let none : length c.args.tiles.now ≡ 0 = search rules in
    let sheet : c.args.row < 1048576 = search rules in
    none_empty c.args.area c.args.row c.args.column c.args.tiles.now none sheet
