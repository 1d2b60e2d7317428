use Rattle.wi_engine.proofs.Words.{ap, rules, Stored, key_of}
use Rattle.wi_engine.proofs.attempt.KnownValues.{attempted_by}
use Rattle.wi_engine.proofs.plan.ReadyValues.{nothing_lacks}
use Rattle.wi_engine.proofs.plan.ready_value.Goals as goal

pub unreachable-requires-in-Needs : goal.unreachable-requires-in-Needs
unreachable-requires-in-Needs c =
    let stands = c.new-known.ensures in
    let s = c.args.store.now.sheet in
    let w = c.args.world.now in
    let f = c.args.found.now in
    let attempt = attempted_by c.new-known.result s (key_of c.args.at w) f (ap (λ (x : Stored). x.sheet) stands.store) stands.world stands.found c.in-Some.formula.now c.in_ok-value.field-0 c.requires.open c.in-Some.ensures.found c.requires.ready.right c.in_ok-value.ensures.outcome in
    let lacks = rw c.in-Needs.is at attempt in
    nothing_lacks s w c.args.at f c.requires.ready c.in-Needs.field-0 lacks.asked lacks.lacking

pub returns-clause-value : goal.returns-clause-value
returns-clause-value c =
    let stands = c.new-known.ensures in
    let attempt = attempted_by c.new-known.result c.args.store.now.sheet (key_of c.args.at c.args.world.now) c.args.found.now (ap (λ (x : Stored). x.sheet) stands.store) stands.world stands.found c.in-Some.formula.now c.in_ok-value.field-0 c.requires.open c.in-Some.ensures.found c.requires.ready.right c.in_ok-value.ensures.outcome in
    (rw c.in-Done.is at attempt).value

pub returns-clause-counts : goal.returns-clause-counts
returns-clause-counts c = search rules
