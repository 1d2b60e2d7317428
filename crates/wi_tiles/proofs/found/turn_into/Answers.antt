use Rattle.wi_tiles.proofs.Words.{rules, Some, ◌≡◌, band_at}
use Rattle.wi_tiles.proofs.BareLemmas.{bare_below}
use Rattle.wi_tiles.proofs.TurnLemmas.{band_tiles, gap_none}
use Rattle.wi_tiles.proofs.found.turn_into.Goals as goal

pub returns-in-Some-turn_among-clause-found : goal.returns-in-Some-turn_among-clause-found
returns-in-Some-turn_among-clause-found g c =
    let band : band_at c.args.pages.now c.args.row ≡ Some c.parts.result.now = search rules in
    c.in-Some-turn_among.ensures.some c.args.pages.now (band_tiles c.args.pages.now c.args.area c.args.row c.parts.result.now c.tiles_in.result.now band c.tiles_in.ensures.same)

pub returns-in-None-turn_among-clause-none : goal.returns-in-None-turn_among-clause-none
returns-in-None-turn_among-clause-none g c =
    let band : band_at c.args.pages.now c.args.row ≡ Some c.parts.result.now = search rules in
    let none = c.in-None-turn_among.ensures.none c.args.pages.now (band_tiles c.args.pages.now c.args.area c.args.row c.parts.result.now c.tiles_in.result.now band c.tiles_in.ensures.same) in
    (c.past_bare.ensures.later, c.past_bare.ensures.sheet, bare_below c.args.pages.now c.args.area c.args.row c.args.column c.past_bare.result none c.past_bare.ensures.bare)

pub returns-in-None-clause-none : goal.returns-in-None-clause-none
returns-in-None-clause-none g c = (c.past_gap.ensures.later, c.past_gap.ensures.within, gap_none c.args.pages.now c.args.area c.args.row c.args.column c.past_gap.result c.past_gap.ensures.within c.past_gap.ensures.gap)
