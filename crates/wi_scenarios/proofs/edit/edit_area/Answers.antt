use Rattle.wi_scenarios.proofs.Words.{List, subst, Area, IsMade, book_by}
use Rattle.wi_scenarios.proofs.edit.edit_area.Goals as goal

pub returns-clause-edit : goal.returns-clause-edit
returns-clause-edit g c =
    let book = book_by g.C.Calculator.stored g.C.Calculator.evaluated g.C.Calculator.restarted in
    subst (λ (areas : List Area). IsMade g.C.Calculator.marked c.args.force (record { named = areas; contents = c.args.contents.now }) c.apply_edit.result
    (book c.args.calculator.now c.args.desk.now) (book c.apply_edit.new.calculator c.apply_edit.new.desk)) c.one.ensures c.apply_edit.ensures.edit
