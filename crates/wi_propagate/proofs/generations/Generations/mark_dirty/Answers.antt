use Rattle.wi_propagate.proofs.Words.{◌∙◌, ap, is_one_of, Stamps, on_ok}
use Rattle.wi_propagate.proofs.StampSteps.{key_there, there_key, dirty_key}
use Rattle.wi_propagate.proofs.generations.Generations.mark_dirty.Goals as goal

pub returns-in_err-mark_read-clause-stays : goal.returns-in_err-mark_read-clause-stays
returns-in_err-mark_read-clause-stays c = λ d h.
    key_there c.mark_read.new.generations.entries d (c.mark_read.ensures.stay d (there_key c.self.inside.dirty.entries d (ap (λ (g : Stamps). is_one_of g.dirty d) c.self.view_is ∙ h)))

pub returns-clause-stays : goal.returns-clause-stays
returns-clause-stays c = λ d h.
    key_there c.mark_read.new.generations.entries d (c.in_ok-mark_read.ensures.stay d (there_key c.self.inside.dirty.entries d (ap (λ (g : Stamps). is_one_of g.dirty d) c.self.view_is ∙ h)))

pub returns-clause-dirty : goal.returns-clause-dirty
returns-clause-dirty c = on_ok c.reserve.result (λ s a x m. dirty_key c.mark_read.new.generations.entries x (c.in_ok-mark_read.ensures.dirty s a x m))
