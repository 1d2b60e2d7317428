use Rattle.wi_engine.proofs.stack.FramesOnTop.{no_frames, no_rests}
use Rattle.wi_engine.proofs.stack.Stack.new.Goals as goal

pub returns : goal.returns
returns c = no_frames c.new.result.items c.new-2.result.items c.new.ensures.items

pub invariant_of-result : goal.invariant_of-result
invariant_of-result c = no_rests c.new.result.items c.new-2.result.items c.new.ensures.items c.new-2.ensures.items
