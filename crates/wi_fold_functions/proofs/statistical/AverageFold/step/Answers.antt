use Rattle.wi_fold_functions.proofs.Words.{◌∙◌, sym, ap, IfOk-from_err, item_of, mean_with}
use Rattle.std.proofs.Common.{Ok}
use Rattle.wi_fold_functions.proofs.Counting.{mean_error, mean_same, mean_more, mean_too_great, error_told}
use Rattle.wi_fold_functions.proofs.statistical.AverageFold.step.Goals as goal

pub returns-in_err-x-clause-ok : goal.returns-in_err-x-clause-ok
returns-in_err-x-clause-ok c = IfOk-from_err c.from_residual.result _ c.from_residual.ensures.0

pub returns-in_err-x-clause-err : goal.returns-in_err-x-clause-err
returns-in_err-x-clause-err c =
    error_told (mean_with c.args.self.now (item_of c.args.item)) c.from_residual.result c.in_err-x.field-0.0 c.from_residual.ensures.1
    (mean_error c.args.self.now (item_of c.args.item) c.in_err-x.field-0.0 (sym c.in_err-x.ensures))

pub returns-in_ok-add_to-clause-ok : goal.returns-in_ok-add_to-clause-ok
returns-in_ok-add_to-clause-ok c =
    mean_more c.args.self.now (item_of c.args.item) c.in-Some.x c.add_to.new.total c.counted-self.result (sym c.in_ok-x.ensures ∙ ap (λ o. Ok o) c.in-Some.is)
    c.in_ok-add_to.ensures.ok c.counted-self.ensures

pub returns-in_err-add_to-clause-ok : goal.returns-in_err-add_to-clause-ok
returns-in_err-add_to-clause-ok c = IfOk-from_err c.from_residual-in_err-add_to.result _ c.from_residual-in_err-add_to.ensures.0

pub returns-in_err-add_to-clause-err : goal.returns-in_err-add_to-clause-err
returns-in_err-add_to-clause-err c =
    error_told (mean_with c.args.self.now (item_of c.args.item)) c.from_residual-in_err-add_to.result c.in_err-add_to.field-0.0 c.from_residual-in_err-add_to.ensures.1
    (mean_too_great c.args.self.now (item_of c.args.item) c.in-Some.x c.in_err-add_to.field-0.0 (sym c.in_ok-x.ensures ∙ ap (λ o. Ok o) c.in-Some.is) c.in_err-add_to.ensures.err)

pub returns-in_default-clause-ok : goal.returns-in_default-clause-ok
returns-in_default-clause-ok c = mean_same c.args.self.now (item_of c.args.item) (sym c.in_ok-x.ensures ∙ ap (λ o. Ok o) c.in_default.is)
