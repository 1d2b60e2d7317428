use Rattle.wi_tiles.proofs.Words.{refl}
use Rattle.wi_tiles.proofs.BareLemmas.{bare_page}
use Rattle.wi_tiles.proofs.bare.past_bands.Goals as goal

pub returns-then-lacks-clause-bare : goal.returns-then-lacks-clause-bare
returns-then-lacks-clause-bare g c = λ i l u. bare_page c.args.page.now c.args.area c.columns_of.result c.columns_of.ensures (c.if-lacks.ensures refl) i u
