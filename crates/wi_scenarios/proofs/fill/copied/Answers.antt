use Rattle.wi_scenarios.proofs.Words.{◌≡◌, None, ap, rules, option_copied, copy_to}
use Rattle.wi_scenarios.proofs.FillSteps.{lacks_copy, formula_copied, formula_not_copied}
use Rattle.wi_scenarios.proofs.fill.copied.Goals as goal

pub returns-in-None : goal.returns-in-None
returns-in-None c =
    let nothing : option_copied c.args.content ≡ None = ap option_copied c.in-None.is in
    ap (λ o. copy_to o c.args.from c.args.to) nothing

pub returns-in_err-copy-in-Some-Constant : goal.returns-in_err-copy-in-Some-Constant
returns-in_err-copy-in-Some-Constant c = lacks_copy _ c.from_residual.result c.from_residual.ensures.1

pub returns-in_err-shift-in-Some-Formula : goal.returns-in_err-shift-in-Some-Formula
returns-in_err-shift-in-Some-Formula c =
    formula_not_copied (option_copied c.args.content) c.in-Some-Formula.formula _ _ _ _ _ c.from_residual-in_err-shift-in-Some-Formula.result
    (search rules) (search rules) (search rules) c.in_err-shift-in-Some-Formula.ensures c.from_residual-in_err-shift-in-Some-Formula.ensures.1

pub returns-in_ok-shift-in-Some-Formula : goal.returns-in_ok-shift-in-Some-Formula
returns-in_ok-shift-in-Some-Formula c =
    formula_copied (option_copied c.args.content) c.in-Some-Formula.formula c.in_ok-shift-in-Some-Formula.field-0 _ _ _ _
    (search rules) (search rules) (search rules) c.in_ok-shift-in-Some-Formula.ensures
