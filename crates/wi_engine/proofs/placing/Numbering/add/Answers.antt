use Rattle.wi_engine.proofs.Words.{◌≡◌, ◌+◌, rules}
use Rattle.wi_engine.proofs.placing.Numbered.{one_more_numbered}
use Rattle.wi_engine.proofs.placing.Numbering.add.Goals as goal

pub returns : goal.returns
returns c =
    let up : c.in-Some.count ≡ c.args.self.now.count + 1 = search rules in
    one_more_numbered _ _ c.args.at up c.in_ok-insert.ensures.updates.0
