use Rattle.wi_engine.proofs.Words.{refl, rules}
use Rattle.wi_engine.proofs.stack.FramesOnTop.{on_rest, rests_pushed}
use Rattle.wi_engine.proofs.stack.put_with_rest.Goals as goal

pub returns-clause-rests : goal.returns-clause-rests
returns-clause-rests c = rests_pushed c.args.entries.now.items _ c.args.rests.now.items _ c.push_reserved-2.ensures.items c.push_reserved.ensures.items refl c.requires.rests

pub returns-clause-frames : goal.returns-clause-frames
returns-clause-frames c = on_rest c.args.entries.now.items _ c.args.rests.now.items _ c.push_reserved-2.ensures.items c.push_reserved.ensures.items refl c.args.frame (search rules) c.requires.rests
