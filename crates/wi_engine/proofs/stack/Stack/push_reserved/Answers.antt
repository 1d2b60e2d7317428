use Rattle.wi_engine.proofs.Words.{◌++◌, ◌∷◌, [], ◌∙◌, ap, sym, subst, vec_capacity, vec_len, HasSpaceForOne, StackState, stacked}
use Rattle.wi_engine.proofs.stack.FramesOnTop.{space_there}
use Rattle.wi_engine.proofs.stack.Stack.push_reserved.Goals as goal

pub put_on-requires-clause-space : goal.put_on-requires-clause-space
put_on-requires-clause-space c =
    let es = c.self.inside.entries in
    let rs = c.self.inside.rests in
    space_there (vec_len es) (vec_capacity es) (vec_len rs) (vec_capacity rs) (subst (λ (s : StackState). HasSpaceForOne s) (sym c.self.view_is) c.requires)

pub put_on-requires-clause-rests : goal.put_on-requires-clause-rests
put_on-requires-clause-rests c = c.self.invariant

pub invariant_of-self : goal.invariant_of-self
invariant_of-self c = c.put_on.ensures.rests

pub returns-clause-frames : goal.returns-clause-frames
returns-clause-frames c = c.put_on.ensures.frames ∙ ap (λ (s : StackState). s.frames ++ stacked c.args.frame.now ∷ []) c.self.view_is
