use Rattle.wi_engine.proofs.Words.{◌∙◌}
use Rattle.wi_engine.proofs.stack.put_on.Goals as goal

pub put_one_cell-requires-clause-space : goal.put_one_cell-requires-clause-space
put_one_cell-requires-clause-space c = c.requires.space.0

pub put_one_cell-requires-clause-alone : goal.put_one_cell-requires-clause-alone
put_one_cell-requires-clause-alone c = c.in-Some.ensures

pub returns-in-Some-clause-rests : goal.returns-in-Some-clause-rests
returns-in-Some-clause-rests c = c.put_one_cell.ensures.rests ∙ c.requires.rests

pub returns-in-Some-clause-frames : goal.returns-in-Some-clause-frames
returns-in-Some-clause-frames c = c.put_one_cell.ensures.frames c.args.rests.now.items

pub put_with_rest-requires-clause-space : goal.put_with_rest-requires-clause-space
put_with_rest-requires-clause-space c = c.requires.space

pub put_with_rest-requires-clause-rests : goal.put_with_rest-requires-clause-rests
put_with_rest-requires-clause-rests c = c.requires.rests

pub returns-in-None-clause-rests : goal.returns-in-None-clause-rests
returns-in-None-clause-rests c = c.put_with_rest.ensures.rests

pub returns-in-None-clause-frames : goal.returns-in-None-clause-frames
returns-in-None-clause-frames c = rw c.replace.ensures.value at c.put_with_rest.ensures.frames

pub returns-in-None-clause-begins : goal.returns-in-None-clause-begins
returns-in-None-clause-begins c = rw c.replace.ensures.after c.new-above.ensures
