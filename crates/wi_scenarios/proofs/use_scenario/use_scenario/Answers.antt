use Rattle.wi_scenarios.proofs.Words.{◌∙◌, Err, refl, sym, option_copied, state_of}
use Rattle.wi_scenarios.specs.declared.refusal.Refusal.TheVariants.{NoScenario}
use Rattle.wi_scenarios.proofs.ScenarioSteps.{nothing_done, lacked_first, lacked_last, done_with, use_unknown, use_done}
use Rattle.wi_scenarios.proofs.use_scenario.use_scenario.Goals as goal

pub returns-then-is_missing-clause-served : goal.returns-then-is_missing-clause-served
returns-then-is_missing-clause-served g c =
    let s = state_of (g.C.Calculator.stored c.args.calculator.now) c.args.desk.now in
    nothing_done (Err NoScenario) c.requires (use_unknown s (option_copied c.args.name) (sym c.is_missing.ensures ∙ c.if-is_missing.true), refl, refl)

pub returns-in_err-used-clause-served : goal.returns-in_err-used-clause-served
returns-in_err-used-clause-served g c =
    let s = state_of (g.C.Calculator.stored c.args.calculator.now) c.args.desk.now in
    lacked_first _ c.from_residual.result c.requires (use_done s (option_copied c.args.name) (sym c.is_missing.ensures ∙ c.if-is_missing.false)) c.from_residual.ensures.1

pub returns-in_err-use_in_current-clause-served : goal.returns-in_err-use_in_current-clause-served
returns-in_err-use_in_current-clause-served g c =
    let s = state_of (g.C.Calculator.stored c.args.calculator.now) c.args.desk.now in
    lacked_last _ c.from_residual-in_err-use_in_current.result (use_done s (option_copied c.args.name) (sym c.is_missing.ensures ∙ c.if-is_missing.false))
    c.from_residual-in_err-use_in_current.ensures.1 c.in_err-use_in_current.ensures.made

pub returns-clause-served : goal.returns-clause-served
returns-clause-served g c =
    let s = state_of (g.C.Calculator.stored c.args.calculator.now) c.args.desk.now in
    done_with _ (use_done s (option_copied c.args.name) (sym c.is_missing.ensures ∙ c.if-is_missing.false)) refl c.in_ok-use_in_current.ensures.made
