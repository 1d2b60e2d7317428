use Rattle.wi_scenarios.proofs.Words.{◌∙◌, List, Err, refl, sym, ap, option_copied, Kept, state_of}
use Rattle.wi_scenarios.specs.declared.refusal.Refusal.TheVariants.{NoScenario, Loop}
use Rattle.wi_scenarios.proofs.ScenarioSteps.{nothing_done, lacked_first, lacked_last, done_with, is_there, base_unknown, base_loop, base_done}
use Rattle.wi_scenarios.proofs.base.base.Goals as goal

pub returns-then-is_any_missing : goal.returns-then-is_any_missing
returns-then-is_any_missing g c =
    let s = state_of (g.C.Calculator.stored c.args.calculator.now) c.args.desk.now in
    nothing_done (Err NoScenario) c.requires (base_unknown s c.args.name.now (option_copied c.args.other) (sym c.is_any_missing.ensures ∙ c.if-is_any_missing.true), refl, refl)

pub returns-then-is_loop : goal.returns-then-is_loop
returns-then-is_loop g c =
    let s = state_of (g.C.Calculator.stored c.args.calculator.now) c.args.desk.now in
    nothing_done (Err Loop) c.requires
    (base_loop s c.args.name.now (option_copied c.args.other) (sym c.is_any_missing.ensures ∙ c.if-is_any_missing.false) (sym c.is_loop.ensures ∙ c.if-is_loop.true), refl, refl)

pub with_base-requires : goal.with_base-requires
with_base-requires g c =
    let s = state_of (g.C.Calculator.stored c.args.calculator.now) c.args.desk.now in
    is_there s c.args.name.now (option_copied c.args.other) (sym c.is_any_missing.ensures ∙ c.if-is_any_missing.false)

pub returns-in_err-next : goal.returns-in_err-next
returns-in_err-next g c =
    let s = state_of (g.C.Calculator.stored c.args.calculator.now) c.args.desk.now in
    lacked_first _ c.from_residual.result c.requires
    (base_done s c.args.name.now (option_copied c.args.other) (sym c.is_any_missing.ensures ∙ c.if-is_any_missing.false) (sym c.is_loop.ensures ∙ c.if-is_loop.false)) c.from_residual.ensures.1

pub returns-in_err-switch_to : goal.returns-in_err-switch_to
returns-in_err-switch_to g c =
    let s = state_of (g.C.Calculator.stored c.args.calculator.now) c.args.desk.now in
    lacked_last _ c.from_residual-in_err-switch_to.result
    (base_done s c.args.name.now (option_copied c.args.other) (sym c.is_any_missing.ensures ∙ c.if-is_any_missing.false) (sym c.is_loop.ensures ∙ c.if-is_loop.false))
    c.from_residual-in_err-switch_to.ensures.1 c.in_err-switch_to.ensures

pub returns : goal.returns
returns g c =
    let s = state_of (g.C.Calculator.stored c.args.calculator.now) c.args.desk.now in
    done_with _ (base_done s c.args.name.now (option_copied c.args.other) (sym c.is_any_missing.ensures ∙ c.if-is_any_missing.false) (sym c.is_loop.ensures ∙ c.if-is_loop.false))
    (ap (λ (xs : List Kept). record s { scenarios = xs }) c.in_ok-next.ensures) c.in_ok-switch_to.ensures
