use Rattle.wi_scenarios.proofs.Words.{◌∙◌, Ok, Err, refl, rules, is_pending_for_all, book_by, state_of}
use Rattle.wi_scenarios.proofs.CallLemmas.{unchanged}
use Rattle.wi_scenarios.proofs.EditLemmas.{closed_for_all, marked_as, AreTaken, edit_lacks, edit_served, sound_taken, adds_taken}
use Rattle.wi_scenarios.proofs.edit.edit_caught_up.Goals as goal

pub marked_by-requires : goal.marked_by-requires
marked_by-requires g c =
    closed_for_all g.C.Calculator.marked (g.C.Calculator.stored c.args.calculator.now) c.args.desk.now c.requires

pub returns-in-Some-clause-edit : goal.returns-in-Some-clause-edit
returns-in-Some-clause-edit g c =
    let old = book_by g.C.Calculator.stored g.C.Calculator.evaluated g.C.Calculator.restarted c.args.calculator.now c.args.desk.now in
    unchanged _ old (search rules, refl, refl)

pub returns-in_err-marked-clause-edit : goal.returns-in_err-marked-clause-edit
returns-in_err-marked-clause-edit g c =
    let old = book_by g.C.Calculator.stored g.C.Calculator.evaluated g.C.Calculator.restarted c.args.calculator.now c.args.desk.now in
    unchanged _ old (edit_lacks c.from_residual.result old.state c.args.force (record { named = c.args.named; contents = c.args.contents.now }) c.from_residual.ensures.1)

pub returns-in-Ok-clause-edit : goal.returns-in-Ok-clause-edit
returns-in-Ok-clause-edit g c =
    let old = g.C.Calculator.stored c.args.calculator.now in
    let new = g.C.Calculator.stored c.edit_with_rooms.new.calculator in
    let served = edit_served (Ok tt) (state_of old c.args.desk.now) (state_of new (record c.edit_with_rooms.new.desk { sessions = c.commit_all.new.self })) c.args.force (record { named = c.args.named; contents = c.args.contents.now }) (search rules)
    c.in-Ok.ensures.beside.scenarios (c.commit_all.ensures.sessions ∙ c.in-Ok.ensures.beside.sessions) c.in-Ok.ensures.beside.current c.in-Ok.ensures.edit in
    let took = c.commit_all.ensures in
    let taken : AreTaken c.edit_with_rooms.new.desk.sessions c.commit_all.new.self = record { sessions = took.sessions; lists = took.lists; pending = took.pending; vacant = took.vacant } in
    record {
      step = search (served);
      adds = adds_taken g.C.Calculator.marked g.met.C.Calculator.marks old new c.args.desk.now c.edit_with_rooms.new.desk c.commit_all.new.self c.args.contents.now _
          c.requires c.in-Ok.ensures.beside
          (marked_as g.C.Calculator.marked old.sheet (is_pending_for_all c.args.desk.now.sessions) c.args.contents.now c.args.contents.now c.in_ok-marked.marked.items c.deref.result.now
          refl c.deref.ensures c.in_ok-marked.ensures)
          c.in-Ok.ensures.rooms taken;
      refused = tt;
      counts = c.edit_with_rooms.ensures.counts;
    }

pub returns-in-Ok-clause-sound : goal.returns-in-Ok-clause-sound
returns-in-Ok-clause-sound g c =
    let old = g.C.Calculator.stored c.args.calculator.now in
    let new = g.C.Calculator.stored c.edit_with_rooms.new.calculator in
    let took = c.commit_all.ensures in
    let taken : AreTaken c.edit_with_rooms.new.desk.sessions c.commit_all.new.self = record { sessions = took.sessions; lists = took.lists; pending = took.pending; vacant = took.vacant } in
    sound_taken g.C.Calculator.marked g.met.C.Calculator.marks old new c.args.desk.now c.edit_with_rooms.new.desk c.commit_all.new.self c.args.contents.now _
    c.requires c.in-Ok.ensures.beside
    (marked_as g.C.Calculator.marked old.sheet (is_pending_for_all c.args.desk.now.sessions) c.args.contents.now c.args.contents.now c.in_ok-marked.marked.items c.deref.result.now
    refl c.deref.ensures c.in_ok-marked.ensures)
    c.in-Ok.ensures.rooms taken c.in-Ok.ensures.edit.0

pub returns-clause-edit : goal.returns-clause-edit
returns-clause-edit g c =
    let s = state_of (g.C.Calculator.stored c.args.calculator.now) c.args.desk.now in
    let t = state_of (g.C.Calculator.stored c.edit_with_rooms.new.calculator) (record c.edit_with_rooms.new.desk { sessions = c.cancel_all.new.self }) in
    let beside = c.edit_with_rooms.ensures.beside in
    record {
      step = edit_served (Err c.in-Err.refusal) s t c.args.force (record { named = c.args.named; contents = c.args.contents.now }) (search rules)
          beside.scenarios (c.cancel_all.ensures.sessions ∙ beside.sessions) beside.current c.in-Err.ensures.edit;
      adds = search rules;
      refused = c.cancel_all.ensures.pending ∙ beside.pending;
      counts = c.edit_with_rooms.ensures.counts;
    }
