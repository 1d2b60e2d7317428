use Rattle.wi_scenarios.proofs.Words.{◌≡◌, ◌<◌, length, arith, common_steps, on_ok_weaker, pending_of, vacant_of}
use Rattle.wi_scenarios.proofs.SwitchLemmas.{none_differs, room_marked}
use Rattle.wi_scenarios.proofs.switch.make_room_between.Goals as goal

pub returns-then-is_empty-clause-room : goal.returns-then-is_empty-clause-room
returns-then-is_empty-clause-room g c =
    let cells = c.in_ok-cells.cells.items in
    let none : length cells ≡ 0 = grind (arith, common_steps) in
    let sessions = c.args.sessions.now in
    none_differs g.C.Calculator.marked (g.C.Calculator.stored c.args.calculator.now).sheet c.args.before.now c.args.after.now cells (pending_of sessions c.args.i) (vacant_of sessions c.args.i)
    c.requires.before c.requires.after c.in_ok-cells.ensures none c.requires.none

pub returns-clause-room : goal.returns-clause-room
returns-clause-room g c =
    let cells = c.in_ok-cells.cells.items in
    let some : 0 < length cells = grind (arith, common_steps) in
    let sessions = c.args.sessions.now in
    on_ok_weaker c.make_room.result
    (λ room. room_marked g.C.Calculator.marked g.met.C.Calculator.marks (g.C.Calculator.stored c.args.calculator.now).sheet c.args.before.now c.args.after.now
    cells c.deref.result.now c.in_ok-marked.marked.items c.deref-2.result.now (pending_of sessions c.args.i) (vacant_of sessions c.args.i) (vacant_of c.make_room.new.self c.args.i)
    c.requires.before c.requires.after c.in_ok-cells.ensures c.deref.ensures.value some c.requires.none
    c.in_ok-marked.ensures.marked c.deref-2.ensures.value room)
    c.make_room.ensures.room
