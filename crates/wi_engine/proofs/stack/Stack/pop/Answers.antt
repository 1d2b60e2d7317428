use Rattle.wi_engine.proofs.Words.{◌≡◌, ◌++◌, ◌∷◌, [], subst, MatchOption, StackState, frames_in, stacked}
use Rattle.wi_engine.proofs.stack.Stack.pop.Goals as goal

pub take_off-requires : goal.take_off-requires
take_off-requires c = c.self.invariant

pub invariant_of-self : goal.invariant_of-self
invariant_of-self c = c.take_off.ensures.rests

pub returns-clause-frames : goal.returns-clause-frames
returns-clause-frames c =
    let left = frames_in c.take_off.new.entries.items c.take_off.new.rests.items in
    subst (λ (s : StackState). MatchOption c.take_off.result (s.frames ≡ []) (λ _. s.frames ≡ left ++ stacked c.take_off.new.frame ∷ [])) c.self.view_is c.take_off.ensures.frames
