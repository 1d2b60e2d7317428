use Rattle.wi_engine.proofs.Words.{◌∙◌, ap, on_ok_weaker, vec_capacity, vec_len, StackState}
use Rattle.wi_engine.proofs.stack.FramesOnTop.{space_left, same_frames, same_rests}
use Rattle.wi_engine.proofs.stack.Stack.reserve.Goals as goal

pub invariant_of-self : goal.invariant_of-self
invariant_of-self c = same_rests c.make_space.ensures.entries c.make_space.ensures.rests c.self.invariant

pub returns-clause-frames : goal.returns-clause-frames
returns-clause-frames c = same_frames c.make_space.ensures.entries c.make_space.ensures.rests ∙ ap (λ (s : StackState). s.frames) c.self.view_is

pub returns-clause-space : goal.returns-clause-space
returns-clause-space c =
    let es = c.make_space.new.entries in
    let rs = c.make_space.new.rests in
    on_ok_weaker c.make_space.result (space_left (vec_len es) (vec_capacity es) (vec_len rs) (vec_capacity rs)) c.make_space.ensures.space
