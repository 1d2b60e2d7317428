use Rattle.wi_worlds.proofs.Words.{Ok, Err}
use Rattle.wi_values.proofs.Listed.{search_tells}
use Rattle.wi_worlds.proofs.rising.has_next.Goals as goal

pub returns-in-Ok : goal.returns-in-Ok
returns-in-Ok c = search_tells c.args.cells.now c.args.cell (Ok c.in-Ok.place) c.requires c.in-Ok.ensures.position

pub returns-in-Err : goal.returns-in-Err
returns-in-Err c = search_tells c.args.cells.now c.args.cell (Err c.in-Err.place) c.requires c.in-Err.ensures.position
