use Rattle.wi_propagate.proofs.Words.{IfSome, Option, subst, Edges, AreEdgesOf}
use Rattle.wi_propagate.proofs.HeadSteps.{head_over}
use Rattle.wi_propagate.proofs.generations.Generations.keep_over_edit.Goals as goal

pub returns-else-not-reads_stay-clause-head : goal.returns-else-not-reads_stay-clause-head
returns-else-not-reads_stay-clause-head c = λ s t a b h.
    head_over c.args.graph.now.now s t c.args.self.now.head c.args.self.now.cone a (subst (λ (o : Option Edges). IfSome o (λ es. AreEdgesOf es t)) (c.reads_stay.ensures.0 c.if-not-reads_stay.false) b) h
