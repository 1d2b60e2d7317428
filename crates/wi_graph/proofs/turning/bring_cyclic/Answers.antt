use Rattle.wi_graph.proofs.SetSteps.{became_undone}
use Rattle.wi_graph.proofs.turning.bring_cyclic.Goals as goal

pub returns-in-Err-clause-err : goal.returns-in-Err-clause-err
returns-in-Err-clause-err c = became_undone c.args.cyclic.now c.insert_all.new.set c.take_away.new.set c.args.became.now c.requires c.insert_all.ensures.stay c.insert_all.ensures.only c.take_away.ensures
