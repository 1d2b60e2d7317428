use Rattle.wi_engine.proofs.Words.{◌∙◌, refl, rules}
use Rattle.wi_engine.proofs.engine.TakenValues.{takes_none, takes_err, takes_value}
use Rattle.wi_engine.proofs.engine.take_in.Goals as goal

pub returns-then-not-waits_for_cell : goal.returns-then-not-waits_for_cell
returns-then-not-waits_for_cell c = takes_none

pub returns : goal.returns
returns c =
    let waits = c.wait_for_others.ensures in
    takes_value c.args.store.now.sheet c.args.frame.now c.wait_for_others.new.frame c.args.key.now c.add_cell.new.self c.in-Cells.at c.in-Cells.others c.in_ok-shown.shown c.requires.awaited (search rules) c.in_ok-add_cell.ensures waits.key waits.found waits.formula (waits.awaits refl)
    (c.in_ok-shown.ensures ∙ c.requires.right) c.requires.awaits

pub returns-in_err-shown : goal.returns-in_err-shown
returns-in_err-shown c = takes_err c.from_residual.result c.from_residual.ensures.0 refl

pub returns-in_err-add_cell : goal.returns-in_err-add_cell
returns-in_err-add_cell c = takes_err c.from_residual-in_err-add_cell.result c.from_residual-in_err-add_cell.ensures.0 refl
