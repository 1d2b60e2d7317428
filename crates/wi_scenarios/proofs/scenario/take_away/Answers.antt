use Rattle.wi_scenarios.proofs.Words.{◌∙◌, List, Err, refl, sym, ap, Kept, state_of}
use Rattle.wi_scenarios.specs.declared.refusal.Refusal.TheVariants.{NoScenario}
use Rattle.wi_scenarios.proofs.ScenarioSteps.{nothing_done, lacked_first, lacked_last, done_with, away_unknown, away_done}
use Rattle.wi_scenarios.proofs.scenario.take_away.Goals as goal

pub returns-then-not-contains : goal.returns-then-not-contains
returns-then-not-contains g c =
    let s = state_of (g.C.Calculator.stored c.args.calculator.now) c.args.desk.now in
    nothing_done (Err NoScenario) c.requires (away_unknown s c.args.name.now c.args.at c.is_placed.ensures (sym c.contains.ensures ∙ c.if-not-contains.true), refl, refl)

pub returns-in_err-next : goal.returns-in_err-next
returns-in_err-next g c =
    let s = state_of (g.C.Calculator.stored c.args.calculator.now) c.args.desk.now in
    lacked_first _ c.from_residual.result c.requires (away_done s c.args.name.now c.args.at c.is_placed.ensures (sym c.contains.ensures ∙ c.if-not-contains.false)) c.from_residual.ensures.1

pub returns-in_err-switch_to : goal.returns-in_err-switch_to
returns-in_err-switch_to g c =
    let s = state_of (g.C.Calculator.stored c.args.calculator.now) c.args.desk.now in
    lacked_last _ c.from_residual-in_err-switch_to.result (away_done s c.args.name.now c.args.at c.is_placed.ensures (sym c.contains.ensures ∙ c.if-not-contains.false))
    c.from_residual-in_err-switch_to.ensures.1 c.in_err-switch_to.ensures

pub returns : goal.returns
returns g c =
    let s = state_of (g.C.Calculator.stored c.args.calculator.now) c.args.desk.now in
    done_with _ (away_done s c.args.name.now c.args.at c.is_placed.ensures (sym c.contains.ensures ∙ c.if-not-contains.false))
    (ap (λ (xs : List Kept). record s { scenarios = xs }) c.in_ok-next.ensures) c.in_ok-switch_to.ensures
