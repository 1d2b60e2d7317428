use Rattle.wi_scenarios.proofs.Words.{◌∙◌, List, ap, slice_set, option_copied, Session, using_scenario, session_at, vacant_of, State, state_of}
use Rattle.wi_scenarios.proofs.SwitchLemmas.{IsSwitch, made_switched, made_nothing, switched_others, others_none, used_sessions, use_switched}
use Rattle.wi_scenarios.proofs.use_scenario.use_in_current.Goals as goal

switched : (g : _) (c : goal.After-commit_all g) → IsSwitch g.C.Calculator.marked (g.C.Calculator.stored c.args.calculator.now) c.args.desk.now (record c.make_room_for_current.new.desk { sessions = c.commit_all.new.self }) (vacant_of c.make_room_for_current.new.desk.sessions)
switched g c =
    let made = c.make_room_for_current.ensures in
    let used = c.use_scenario.ensures in
    let took = c.commit_all.ensures in
    use_switched g.C.Calculator.marked (g.C.Calculator.stored c.args.calculator.now) c.args.desk.now c.make_room_for_current.new.desk c.use_scenario.new.self c.commit_all.new.self _ (option_copied c.args.name) c.requires.sound
    made.state made.pending made.others c.in-Ok.ensures.room used.sessions c.requires.named used.pending used.vacant took.sessions took.lists took.pending took.vacant

pub returns-in-Ok-clause-made : goal.returns-in-Ok-clause-made
returns-in-Ok-clause-made g c =
    let stored = g.C.Calculator.stored c.args.calculator.now in
    let d = c.args.desk.now in
    let r = c.make_room_for_current.new.desk in
    let same = c.make_room_for_current.ensures.state in
    made_switched _ (switched g c)
    (ap (λ (xs : List Session). record (state_of stored r) { sessions = xs })
    (used_sessions stored d r c.use_scenario.new.self.sessions c.commit_all.new.self.sessions _ (option_copied c.args.name) same c.use_scenario.ensures.sessions c.requires.named c.commit_all.ensures.sessions)
    ∙ ap (λ (s : State). record s { sessions = slice_set d.sessions.sessions d.current (using_scenario (session_at d.sessions d.current) (option_copied c.args.name)) }) same)
    c.requires.sound

pub returns-in-Ok-clause-others : goal.returns-in-Ok-clause-others
returns-in-Ok-clause-others g c =
    switched_others _ _ _ _ _ (switched g c) (λ j n. c.make_room_for_current.ensures.others j n ∙ c.requires.sound.full j)

pub returns-in-Err-clause-made : goal.returns-in-Err-clause-made
returns-in-Err-clause-made g c =
    let stored = g.C.Calculator.stored c.args.calculator.now in
    made_nothing _ (record c.make_room_for_current.new.desk { sessions = c.cancel_all.new.self }) c.requires.sound
    (ap (λ (xs : List Session). record (state_of stored c.make_room_for_current.new.desk) { sessions = xs }) c.cancel_all.ensures.sessions ∙ c.make_room_for_current.ensures.state)
    (c.cancel_all.ensures.pending ∙ c.make_room_for_current.ensures.pending) c.cancel_all.ensures.vacant

pub returns-in-Err-clause-others : goal.returns-in-Err-clause-others
returns-in-Err-clause-others g c =
    others_none c.args.desk.now.current c.args.desk.now.sessions.pending c.cancel_all.new.self.pending
    (c.cancel_all.ensures.pending ∙ c.make_room_for_current.ensures.pending)
