use Rattle.wi_scenarios.proofs.Words.{subst, sym, Edit, IsMade, Desk, book_by}
use Rattle.wi_scenarios.proofs.CallLemmas.{unchanged}
use Rattle.wi_scenarios.proofs.EditLemmas.{edit_lacks, same_log}
use Rattle.wi_scenarios.proofs.edit.apply_edit.Goals as goal

pub edit_caught_up-requires : goal.edit_caught_up-requires
edit_caught_up-requires g c = rw (same_log c.args.desk.now c.catch_up.new.self c.catch_up.ensures) c.requires

pub returns-in_err-catch_up-clause-edit : goal.returns-in_err-catch_up-clause-edit
returns-in_err-catch_up-clause-edit g c =
    let book = book_by g.C.Calculator.stored g.C.Calculator.evaluated g.C.Calculator.restarted in
    let old = book c.args.calculator.now c.args.desk.now in
    let edit : Edit = record { named = c.args.named; contents = c.args.contents.now } in
    subst (λ (d : Desk). IsMade g.C.Calculator.marked c.args.force edit c.from_residual.result old (book c.args.calculator.now d)) (sym (same_log c.args.desk.now c.catch_up.new.self c.catch_up.ensures))
    (unchanged _ old (edit_lacks c.from_residual.result old.state c.args.force edit c.from_residual.ensures.1))

pub returns-in_err-catch_up-clause-sound : goal.returns-in_err-catch_up-clause-sound
returns-in_err-catch_up-clause-sound g c = rw (same_log c.args.desk.now c.catch_up.new.self c.catch_up.ensures) c.requires

pub returns-clause-edit : goal.returns-clause-edit
returns-clause-edit g c = rw (← same_log c.args.desk.now c.catch_up.new.self c.catch_up.ensures) c.edit_caught_up.ensures.edit
