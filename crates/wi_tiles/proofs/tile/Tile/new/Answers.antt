use Rattle.wi_tiles.proofs.Words.{ap, ◌∙◌, None, slice_index_or, slots}
use Rattle.wi_tiles.proofs.Tiles.{none_anywhere}
use Rattle.wi_tiles.proofs.tile.Tile.new.Goals as goal

pub returns : goal.returns
returns g c = λ i. ap (λ vs. slice_index_or (slots 0 vs) i None) c.new.ensures.items ∙ none_anywhere i
