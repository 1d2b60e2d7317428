use Rattle.wi_store.proofs.Words.{Some, ap, ◌∙◌, is_ahead, sheet_in}
use Rattle.wi_store.proofs.ContentsLemmas.{those_have, sheet_in-filter}
use Rattle.wi_store.proofs.contents.Contents.new.Goals as goal

pub invariant_of-result : goal.invariant_of-result
invariant_of-result c = those_have (is_ahead c.args.area (Some c.args.from)) c.args.rooms.now.entries c.within.result c.requires c.within.ensures

pub returns : goal.returns
returns c = ap sheet_in c.within.ensures ∙ sheet_in-filter (is_ahead c.args.area (Some c.args.from)) c.args.rooms.now.entries
