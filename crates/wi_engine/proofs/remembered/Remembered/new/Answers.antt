use Rattle.wi_engine.proofs.Words.{rules}
use Rattle.wi_engine.proofs.remembered.QuestionMemory.{no_values}
use Rattle.wi_engine.proofs.remembered.Remembered.new.Goals as goal

pub returns-clause-right : goal.returns-clause-right
returns-clause-right c = no_values c.args.store.now.sheet c.args.order.items c.new-3.result c.requires.order c.new-3.ensures

pub returns-clause-value : goal.returns-clause-value
returns-clause-value c = search rules
