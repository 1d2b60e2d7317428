use Rattle.wi_engine.proofs.question.Question.value_at_hand.Goals as goal

pub returns-in-Ready-clause-value : goal.returns-in-Ready-clause-value
returns-in-Ready-clause-value g c =
    let shown = rw c.in-Ready.is at c.in_ok-value.ensures.asked in
    search shown.value
