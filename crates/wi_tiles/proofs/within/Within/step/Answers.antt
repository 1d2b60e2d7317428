use Rattle.wi_tiles.proofs.Words.{arith, sym, ◌∙◌, w64, trailing_zeros, place}
use Rattle.wi_tiles.proofs.StepLemmas.{step_left, walk_left, walk_there, walk_counts, step_turned, walk_turned, turn_within, turn_place, turn_few, turn_value}
use Rattle.wi_tiles.proofs.WalkLemmas.{all_behind, ends}
use Rattle.wi_tiles.proofs.within.Within.step.Goals as goal

pub first_left-requires-clause-there : goal.first_left-requires-clause-there
first_left-requires-clause-there g c = walk_there c.self.inside.pages.now c.self.inside.area c.self.inside.corner c.self.inside.left c.self.inside.before c.self.inside.whole c.self.inside.row c.self.inside.column c.self.inside.tiles c.self.inside.first c.self.inside.tile c.self.invariant

pub first_left-requires-clause-counted : goal.first_left-requires-clause-counted
first_left-requires-clause-counted g c = walk_counts c.self.inside.pages.now c.self.inside.area c.self.inside.corner c.self.inside.left c.self.inside.before c.self.inside.whole c.self.inside.row c.self.inside.column c.self.inside.tiles c.self.inside.first c.self.inside.tile c.self.invariant

pub first_left-requires-clause-nothing : goal.first_left-requires-clause-nothing
first_left-requires-clause-nothing g c = c.self.invariant.nothing

pub invariant_of-self : goal.invariant_of-self
invariant_of-self g c = walk_left c.self.inside.pages.now c.self.inside.area c.self.inside.corner c.self.inside.left c.self.inside.before c.self.inside.whole c.self.inside.row c.self.inside.column c.self.inside.tiles c.self.inside.first c.in-Some.found.0 c.in-Some.found.1 c.without-self-inside.result c.in-Some.found.2.now c.without-self-inside.ensures.cleared c.without-self-inside.ensures.others c.self.inside.tile c.self.invariant c.in-Some.ensures.some

pub returns-in-Some-clause-steps : goal.returns-in-Some-clause-steps
returns-in-Some-clause-steps g c = sym c.self.view_is ∙ step_left c.self.inside.pages.now c.self.inside.area c.self.inside.corner c.self.inside.left c.self.inside.before c.self.inside.whole c.self.inside.row c.self.inside.column c.self.inside.tiles c.self.inside.first c.in-Some.found.0 c.in-Some.found.1 c.without-self-inside.result c.in-Some.found.2.now c.without-self-inside.ensures.cleared c.without-self-inside.ensures.others c.self.inside.tile c.self.invariant c.in-Some.ensures.some

pub turn_on-requires-clause-goes : goal.turn_on-requires-clause-goes
turn_on-requires-clause-goes g c = c.self.invariant.goes

pub turn_on-requires-clause-band : goal.turn_on-requires-clause-band
turn_on-requires-clause-band g c = c.self.invariant.band

pub returns-in-Some-turn_on-clause-within : goal.returns-in-Some-turn_on-clause-within
returns-in-Some-turn_on-clause-within g c = let turn = c.in-Some-turn_on.ensures.some in turn_within c.self.inside.pages.now c.self.inside.area c.in-Some-turn_on.turn.corner c.in-Some-turn_on.turn.left c.in-Some-turn_on.turn.before c.in-Some-turn_on.turn.whole c.in-Some-turn_on.turn.row c.in-Some-turn_on.turn.column c.in-Some-turn_on.turn.tiles c.in-Some-turn_on.turn.first (place c.self.inside.row c.self.inside.column) c.in-Some-turn_on.turn.tile.now turn

pub invariant_of-self-in-Some-turn_on : goal.invariant_of-self-in-Some-turn_on
invariant_of-self-in-Some-turn_on g c = let turn = c.in-Some-turn_on.ensures.some in walk_turned c.self.inside.pages.now c.self.inside.area c.in-Some-turn_on.turn.corner c.in-Some-turn_on.turn.left c.in-Some-turn_on.turn.before c.in-Some-turn_on.turn.whole c.in-Some-turn_on.turn.row c.in-Some-turn_on.turn.column c.in-Some-turn_on.turn.tiles c.in-Some-turn_on.turn.first (trailing_zeros w64 c.in-Some-turn_on.turn.left) c.without-self-inside-in-Some-turn_on.result c.value_at.result.now c.without-self-inside-in-Some-turn_on.ensures.cleared c.without-self-inside-in-Some-turn_on.ensures.others (place c.self.inside.row c.self.inside.column) c.in-Some-turn_on.turn.tile turn (turn_value c.self.inside.pages.now c.self.inside.area c.in-Some-turn_on.turn.corner c.in-Some-turn_on.turn.left c.in-Some-turn_on.turn.before c.in-Some-turn_on.turn.whole c.in-Some-turn_on.turn.row c.in-Some-turn_on.turn.column c.in-Some-turn_on.turn.tiles c.in-Some-turn_on.turn.first (place c.self.inside.row c.self.inside.column) c.in-Some-turn_on.turn.tile.now turn c.value_at.result.now c.value_at.ensures)

pub value_at-requires : goal.value_at-requires
value_at-requires g c = let turn = c.in-Some-turn_on.ensures.some in turn_place c.self.inside.pages.now c.self.inside.area c.in-Some-turn_on.turn.corner c.in-Some-turn_on.turn.left c.in-Some-turn_on.turn.before c.in-Some-turn_on.turn.whole c.in-Some-turn_on.turn.row c.in-Some-turn_on.turn.column c.in-Some-turn_on.turn.tiles c.in-Some-turn_on.turn.first (place c.self.inside.row c.self.inside.column) c.in-Some-turn_on.turn.tile.now turn

pub without-self-inside-requires-in-Some-turn_on : goal.without-self-inside-requires-in-Some-turn_on
without-self-inside-requires-in-Some-turn_on g c = let turn = c.in-Some-turn_on.ensures.some in turn_within c.self.inside.pages.now c.self.inside.area c.in-Some-turn_on.turn.corner c.in-Some-turn_on.turn.left c.in-Some-turn_on.turn.before c.in-Some-turn_on.turn.whole c.in-Some-turn_on.turn.row c.in-Some-turn_on.turn.column c.in-Some-turn_on.turn.tiles c.in-Some-turn_on.turn.first (place c.self.inside.row c.self.inside.column) c.in-Some-turn_on.turn.tile.now turn

pub overflow_add-self-in-Some-turn_on : goal.overflow_add-self-in-Some-turn_on
overflow_add-self-in-Some-turn_on g c = let turn = c.in-Some-turn_on.ensures.some in omega (arith, turn_few c.self.inside.pages.now c.self.inside.area c.in-Some-turn_on.turn.corner c.in-Some-turn_on.turn.left c.in-Some-turn_on.turn.before c.in-Some-turn_on.turn.whole c.in-Some-turn_on.turn.row c.in-Some-turn_on.turn.column c.in-Some-turn_on.turn.tiles c.in-Some-turn_on.turn.first (place c.self.inside.row c.self.inside.column) c.in-Some-turn_on.turn.tile.now turn)

pub returns-in-Some-turn_on-clause-steps : goal.returns-in-Some-turn_on-clause-steps
returns-in-Some-turn_on-clause-steps g c =
    let turn = c.in-Some-turn_on.ensures.some in
    sym c.self.view_is ∙ all_behind c.self.inside.pages.now c.self.inside.area (place c.self.inside.row c.self.inside.column) c.self.inside.corner c.self.inside.left c.in-None.ensures.none
    ∙ step_turned c.self.inside.pages.now c.self.inside.area c.in-Some-turn_on.turn.corner c.in-Some-turn_on.turn.left c.in-Some-turn_on.turn.before c.in-Some-turn_on.turn.whole c.in-Some-turn_on.turn.row c.in-Some-turn_on.turn.column c.in-Some-turn_on.turn.tiles c.in-Some-turn_on.turn.first (trailing_zeros w64 c.in-Some-turn_on.turn.left) c.without-self-inside-in-Some-turn_on.result c.value_at.result.now c.without-self-inside-in-Some-turn_on.ensures.cleared c.without-self-inside-in-Some-turn_on.ensures.others (place c.self.inside.row c.self.inside.column) c.in-Some-turn_on.turn.tile.now turn (turn_value c.self.inside.pages.now c.self.inside.area c.in-Some-turn_on.turn.corner c.in-Some-turn_on.turn.left c.in-Some-turn_on.turn.before c.in-Some-turn_on.turn.whole c.in-Some-turn_on.turn.row c.in-Some-turn_on.turn.column c.in-Some-turn_on.turn.tiles c.in-Some-turn_on.turn.first (place c.self.inside.row c.self.inside.column) c.in-Some-turn_on.turn.tile.now turn c.value_at.result.now c.value_at.ensures)

pub returns-in-None-turn_on-clause-steps : goal.returns-in-None-turn_on-clause-steps
returns-in-None-turn_on-clause-steps g c =
    let none = sym c.self.view_is ∙ all_behind c.self.inside.pages.now c.self.inside.area (place c.self.inside.row c.self.inside.column) c.self.inside.corner c.self.inside.left c.in-None.ensures.none ∙ ends c.self.inside.pages.now c.self.inside.area (place c.self.inside.row c.self.inside.column) c.in-None-turn_on.ensures.none in
    (none, none)
