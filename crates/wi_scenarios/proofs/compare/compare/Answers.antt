use Rattle.wi_scenarios.proofs.Words.{◌∙◌, true, false, refl, sym, ap, option_copied, lacks, ◌||◌, book_by, state_of}
use Rattle.wi_scenarios.proofs.CallLemmas.{look_refused, look_lacked, look_done}
use Rattle.wi_scenarios.proofs.LookSteps.{compare_of}
use Rattle.wi_scenarios.proofs.compare.compare.Goals as goal

pub returns-then-is_too_large-clause-looks : goal.returns-then-is_too_large-clause-looks
returns-then-is_too_large-clause-looks g c =
    let old = book_by g.C.Calculator.stored g.C.Calculator.evaluated g.C.Calculator.restarted c.args.calculator.now c.args.desk.now in
    let first = option_copied c.args.compared.now.first in
    let second = option_copied c.args.compared.now.second in
    look_refused _ old c.args.out.now.items (compare_of old.state c.args.area c.is_spanned.ensures true (sym c.is_too_large.ensures ∙ c.if-is_too_large.true) first second (lacks old.state.scenarios first || lacks old.state.scenarios second) refl, refl, refl)

pub returns-then-lacks_either-clause-looks : goal.returns-then-lacks_either-clause-looks
returns-then-lacks_either-clause-looks g c =
    let old = book_by g.C.Calculator.stored g.C.Calculator.evaluated g.C.Calculator.restarted c.args.calculator.now c.args.desk.now in
    let first = option_copied c.args.compared.now.first in
    let second = option_copied c.args.compared.now.second in
    look_refused _ old c.args.out.now.items (compare_of old.state c.args.area c.is_spanned.ensures false (sym c.is_too_large.ensures ∙ c.if-is_too_large.false) first second true (sym c.lacks_either.ensures ∙ c.if-lacks_either.true), refl, refl)

pub returns-in_err-push_differences-clause-looks : goal.returns-in_err-push_differences-clause-looks
returns-in_err-push_differences-clause-looks g c =
    let old = book_by g.C.Calculator.stored g.C.Calculator.evaluated g.C.Calculator.restarted c.args.calculator.now c.args.desk.now in
    let first = option_copied c.args.compared.now.first in
    let second = option_copied c.args.compared.now.second in
    look_lacked _ c.from_residual.result old _ _ _
    (compare_of old.state c.args.area c.is_spanned.ensures false (sym c.is_too_large.ensures ∙ c.if-is_too_large.false) first second false (sym c.lacks_either.ensures ∙ c.if-lacks_either.false))
    c.from_residual.ensures.1 (ap (λ x. state_of x c.args.desk.now) c.in_err-push_differences.ensures.same) refl c.in_err-push_differences.ensures.err c.in_err-push_differences.ensures.cost

pub returns-clause-looks : goal.returns-clause-looks
returns-clause-looks g c =
    let old = book_by g.C.Calculator.stored g.C.Calculator.evaluated g.C.Calculator.restarted c.args.calculator.now c.args.desk.now in
    let first = option_copied c.args.compared.now.first in
    let second = option_copied c.args.compared.now.second in
    look_done old _ _ _ _
    (compare_of old.state c.args.area c.is_spanned.ensures false (sym c.is_too_large.ensures ∙ c.if-is_too_large.false) first second false (sym c.lacks_either.ensures ∙ c.if-lacks_either.false))
    c.in_ok-push_differences.ensures.ok (ap (λ x. state_of x c.args.desk.now) c.in_ok-push_differences.ensures.same) refl c.in_ok-push_differences.ensures.cost
