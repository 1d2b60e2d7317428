use Rattle.wi_ranges.proofs.Words.{List, ℕ, ap}
use Rattle.wi_ranges.specs.Inner.Telling.{telling}
use Rattle.wi_ranges.proofs.TellLemmas.{told_nothing}
use Rattle.wi_ranges.proofs.search.ReaderSearch.new.Goals as goal

pub returns : goal.returns
returns c = ap (λ (told : List ℕ). telling c.args.index.now told) (told_nothing c.new.result c.args.pieces.now.keys c.new.ensures.empty)

pub invariant_of-result : goal.invariant_of-result
invariant_of-result c = (c.requires.parts, c.requires.whole, c.requires.around)
