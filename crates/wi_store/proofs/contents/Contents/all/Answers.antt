use Rattle.wi_store.proofs.Words.{ap, sheet_in}
use Rattle.wi_store.proofs.ContentsLemmas.{all_have}
use Rattle.wi_store.proofs.contents.Contents.all.Goals as goal

pub invariant_of-result : goal.invariant_of-result
invariant_of-result c = all_have c.args.rooms.now.entries c.iter.result c.requires c.iter.ensures.entries

pub returns : goal.returns
returns c = ap sheet_in c.iter.ensures.entries
