use Rattle.wi_ranges.proofs.Words.{◌∙◌, search_tells}
use Rattle.wi_ranges.proofs.rising_set.is_among.Goals as goal

pub returns : goal.returns
returns c = c.is_ok.ensures.value ∙ search_tells c.args.cells.now c.args.cell c.binary_search.result c.requires c.binary_search.ensures.position
