use Rattle.wi_tiles.proofs.Words.{sym, ap, ◌∙◌, ◌/◌, ◌%◌, in_page}
use Rattle.wi_tiles.proofs.NextLemmas.{page_gap}
use Rattle.wi_tiles.proofs.pages.past_gap.Goals as goal

pub past_gap-requires-clause-bare : goal.past_gap-requires-clause-bare
past_gap-requires-clause-bare g c = ap (λ o. in_page o (c.args.row / 16 % 256)) c.in-Some.ensures ∙ c.requires.bare

pub returns-in-Some-clause-gap : goal.returns-in-Some-clause-gap
returns-in-Some-clause-gap g c = page_gap c.args.pages.now c.args.row c.past_gap.result c.in-Some.page.now (sym c.in-Some.ensures) c.past_gap.ensures.within c.past_gap.ensures.gap
