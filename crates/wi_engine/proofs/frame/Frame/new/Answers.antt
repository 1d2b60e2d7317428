use Rattle.wi_engine.proofs.Words.{refl}
use Rattle.wi_engine.proofs.frame.Frame.new.Goals as goal

pub returns : goal.returns
returns c = record { key = refl; formula = refl; cells = c.new.ensures.cells; what_ifs = c.new.ensures.what_ifs; waiting = refl }
