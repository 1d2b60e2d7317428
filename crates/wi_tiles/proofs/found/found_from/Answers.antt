use Rattle.wi_tiles.proofs.Words.{Some, ◌≡◌, sym, subst, w64, trailing_zeros, place, at_cell, IsNext, cell_in}
use Rattle.wi_tiles.proofs.StepLemmas.{turn_within, turn_place, turn_value}
use Rattle.wi_tiles.proofs.WalkLemmas.{turn_first, next_started, none_started}
use Rattle.wi_tiles.proofs.found.found_from.Goals as goal

pub cell_in-requires : goal.cell_in-requires
cell_in-requires g c = turn_within c.args.pages.now c.args.area c.in-Some.turn.corner c.in-Some.turn.left c.in-Some.turn.before c.in-Some.turn.whole c.in-Some.turn.row c.in-Some.turn.column c.in-Some.turn.tiles c.in-Some.turn.first (place c.start-begin.result.0 c.start-begin.result.1) c.in-Some.turn.tile.now c.in-Some.ensures.some

pub value_at-requires : goal.value_at-requires
value_at-requires g c = turn_place c.args.pages.now c.args.area c.in-Some.turn.corner c.in-Some.turn.left c.in-Some.turn.before c.in-Some.turn.whole c.in-Some.turn.row c.in-Some.turn.column c.in-Some.turn.tiles c.in-Some.turn.first (place c.start-begin.result.0 c.start-begin.result.1) c.in-Some.turn.tile.now c.in-Some.ensures.some

pub returns-in-Some-clause-some : goal.returns-in-Some-clause-some
returns-in-Some-clause-some g c =
    let value = turn_value c.args.pages.now c.args.area c.in-Some.turn.corner c.in-Some.turn.left c.in-Some.turn.before c.in-Some.turn.whole c.in-Some.turn.row c.in-Some.turn.column c.in-Some.turn.tiles c.in-Some.turn.first (place c.start-begin.result.0 c.start-begin.result.1) c.in-Some.turn.tile.now c.in-Some.ensures.some c.value_at.result.now c.value_at.ensures in
    let found = turn_first c.args.pages.now c.args.area (place c.start-begin.result.0 c.start-begin.result.1) c.in-Some.turn.tile.now c.in-Some.turn.corner c.in-Some.turn.left c.in-Some.turn.before c.in-Some.turn.whole c.in-Some.turn.row c.in-Some.turn.column c.in-Some.turn.tiles c.in-Some.turn.first (trailing_zeros w64 c.in-Some.turn.left) c.value_at.result.now c.in-Some.ensures.some value in
    subst (λ a. IsNext c.args.pages.now c.args.area c.args.from a × (at_cell c.args.pages.now a ≡ Some c.value_at.result.now)) (sym c.cell_in.ensures) (next_started c.args.pages.now c.args.area c.args.from c.start-begin.result.0 c.start-begin.result.1 (cell_in c.in-Some.turn.corner (trailing_zeros w64 c.in-Some.turn.left)) c.start-begin.ensures.start found.0, found.1)

pub returns-in-None-clause-none : goal.returns-in-None-clause-none
returns-in-None-clause-none g c = none_started c.args.pages.now c.args.area c.args.from c.start-begin.result.0 c.start-begin.result.1 c.start-begin.ensures.start c.in-None.ensures.none
