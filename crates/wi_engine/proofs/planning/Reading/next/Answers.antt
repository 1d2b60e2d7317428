use Rattle.wi_engine.proofs.planning.PlainFormulas.{next_is_read}
use Rattle.wi_engine.proofs.planning.Reading.next.Goals as goal

pub returns-in-Some-next_within-clause-read : goal.returns-in-Some-next_within-clause-read
returns-in-Some-next_within-clause-read c =
    next_is_read c.args.store.now.sheet c.args.self.cell c.in_ok-formula.formula.now c.rectangles-rectangles.result.now c.loop-area.rectangle c.in-Some.area.now c.loop-area.after c.in-Some-next_within.cell c.in_ok-formula.ensures.found c.rectangles-rectangles.ensures
    c.in-Some.ensures.lookup.3.0 c.in-Some.ensures.lookup.1 c.in-Some-next_within.ensures.some
