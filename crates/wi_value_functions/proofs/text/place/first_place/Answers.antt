use Rattle.wi_value_functions.proofs.Words.{rules, ◌∙◌, ap, sym, drop, Some}
use Rattle.wi_value_functions.proofs.Finding.{found_nowhere, found_behind, fewer}
use Rattle.wi_value_functions.proofs.text.place.first_place.Goals as goal

pub returns-in_err-start-clause-place : goal.returns-in_err-start-clause-place
returns-in_err-start-clause-place c =
    let nowhere = found_nowhere c.args.text.now c.args.sought.now c.utf8.text c.utf8.sought c.in_err-start.ensures.cases in
    search rules

pub returns-clause-place : goal.returns-clause-place
returns-clause-place c =
    let found = c.in_ok-start.ensures.cases in
    ap Some c.count.ensures
    ∙ sym (found_behind c.args.text.now c.args.sought.now c.split_at.result.0.now (drop found.0 c.args.text.now) c.in_ok-start.start c.utf8.text c.utf8.sought found.3 c.split_at.ensures.front found.1.1.split found.1.0)

pub returns-clause-within : goal.returns-clause-within
returns-clause-within c =
    let less = fewer c.args.text.now c.split_at.result.0.now c.in_ok-start.start c.utf8.text c.in_ok-start.ensures.cases.3 c.split_at.ensures.front in
    search rules
