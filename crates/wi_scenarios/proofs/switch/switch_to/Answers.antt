use Rattle.wi_scenarios.proofs.Words.{◌∙◌, List, refl, ap, Session, state_of}
use Rattle.wi_scenarios.proofs.SwitchLemmas.{scenarios_switched, made_switched, made_nothing}
use Rattle.wi_scenarios.proofs.switch.switch_to.Goals as goal

pub returns-in-Ok : goal.returns-in-Ok
returns-in-Ok g c =
    let stored = g.C.Calculator.stored c.args.calculator.now in
    let made = c.make_room_for_each.ensures in
    let took = c.commit_all.ensures in
    made_switched _
    (scenarios_switched g.C.Calculator.marked stored c.args.desk.now (record c.args.desk.now { scenarios = c.args.next; sessions = c.commit_all.new.self }) c.make_room_for_each.new.sessions
    made.sessions made.pending c.in-Ok.ensures.room took.sessions took.lists took.pending took.vacant refl)
    (ap (λ (xs : List Session). record (state_of stored c.args.desk.now) { scenarios = c.args.next; sessions = xs }) (took.sessions ∙ made.sessions)) c.requires

pub returns-in-Err : goal.returns-in-Err
returns-in-Err g c =
    let stored = g.C.Calculator.stored c.args.calculator.now in
    made_nothing _ (record c.args.desk.now { sessions = c.cancel_all.new.self }) c.requires
    (ap (λ (xs : List Session). record (state_of stored c.args.desk.now) { sessions = xs }) (c.cancel_all.ensures.sessions ∙ c.make_room_for_each.ensures.sessions))
    (c.cancel_all.ensures.pending ∙ c.make_room_for_each.ensures.pending) c.cancel_all.ensures.vacant
