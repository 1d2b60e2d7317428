use Rattle.wi_engine.proofs.Words.{ap, IfOk-weaker, Stored}
use Rattle.wi_engine.proofs.attempt.KnownValues.{attempted_by}
use Rattle.wi_engine.proofs.attempt.attempt.Goals as goal

pub returns-clause-outcome : goal.returns-clause-outcome
returns-clause-outcome c =
    let stands = c.new-known.ensures in
    let frame = c.args.frame.now in
    IfOk-weaker c.evaluate.result _ _
    (λ o h. attempted_by c.new-known.result c.args.store.now.sheet frame.key frame.found (ap (λ (x : Stored). x.sheet) stands.store) stands.world stands.found
    frame.formula.now o c.requires.open c.requires.formula c.requires.right h)
    c.evaluate.ensures.outcome

pub returns-clause-counted : goal.returns-clause-counted
returns-clause-counted c = search c.evaluate.ensures.counted
