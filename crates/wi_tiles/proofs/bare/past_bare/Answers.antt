use Rattle.wi_tiles.proofs.Words.{sym}
use Rattle.wi_tiles.proofs.BareLemmas.{bare_rows}
use Rattle.wi_tiles.proofs.bare.past_bare.Goals as goal

pub returns-in-Some-clause-bare : goal.returns-in-Some-clause-bare
returns-in-Some-clause-bare g c = bare_rows c.args.pages.now c.args.area c.args.row c.past_bands.result c.in-Some.page.now (sym c.in-Some.ensures) c.past_bands.ensures.within c.requires c.past_bands.ensures.bare
