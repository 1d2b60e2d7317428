use Rattle.wi_engine.proofs.Words.{ap, put_formula, has_formula}
use Rattle.wi_engine.proofs.planning.drafted.Goals as goal

pub reaches_replaced-requires : goal.reaches_replaced-requires
reaches_replaced-requires g c = c.requires.read.covered (put_formula c.args.store.now.sheet c.args.world.now c.args.root (ap has_formula c.in-Some.ensures.found))
