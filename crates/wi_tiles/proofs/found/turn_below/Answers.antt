use Rattle.wi_tiles.proofs.Words.{rules, ◌≡◌, place, column_of}
use Rattle.wi_tiles.proofs.TurnLemmas.{reached_start, reached_next, reached_end, turn_earlier}
use Rattle.wi_tiles.proofs.found.turn_below.Goals as goal

pub loop-row-init : goal.loop-row-init
loop-row-init g c = reached_start c.args.pages.now c.args.area c.args.from c.args.side c.requires.top c.requires.sheet c.requires.left c.requires.right

pub returns-in-Ok-clause-some : goal.returns-in-Ok-clause-some
returns-in-Ok-clause-some g c = turn_earlier c.args.pages.now c.args.area (place c.args.from c.args.side) (place c.loop-row.row c.loop-row.column) c.in-Ok.turn.tile.now c.in-Ok.turn.corner c.in-Ok.turn.left c.in-Ok.turn.before c.in-Ok.turn.whole c.in-Ok.turn.row c.in-Ok.turn.column c.in-Ok.turn.tiles c.in-Ok.turn.first c.loop-row.invariant.after c.loop-row.invariant.clear c.in-Ok.ensures.found

pub loop-row-preserved : goal.loop-row-preserved
loop-row-preserved g c =
    let left : c.column-left.result ≡ column_of c.args.area.first = search rules in
    reached_next c.args.pages.now c.args.area (place c.args.from c.args.side) c.loop-row.row c.loop-row.column c.in-Err.next c.column-left.result left c.loop-row.invariant c.in-Err.ensures.none

pub returns-clause-none : goal.returns-clause-none
returns-clause-none g c = reached_end c.args.pages.now c.args.area (place c.args.from c.args.side) c.loop-row.row c.loop-row.column (search rules) c.loop-row.invariant
