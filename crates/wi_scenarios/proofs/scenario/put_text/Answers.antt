use Rattle.wi_scenarios.proofs.Words.{◌∙◌, false, true, List, Some, Err, refl, sym, ap, imported, imported_exactly, state_of}
use Rattle.wi_scenarios.specs.declared.refusal.Refusal.TheVariants.{TooMany}
use Rattle.wi_scenario_list.specs.Scenarios.{Scenario}
use Rattle.wi_scenarios.proofs.ScenarioSteps.{nothing_done, lacked_first, lacked_last, done_with, unread, put_of}
use Rattle.wi_scenarios.proofs.scenario.put_text.Goals as goal

pub returns-then-is_full : goal.returns-then-is_full
returns-then-is_full g c =
    let s = state_of (g.C.Calculator.stored c.args.calculator.now) c.args.desk.now in
    let text = c.args.text.now in
    nothing_done (Err TooMany) c.requires.sound
    (put_of s c.args.name.now c.args.at c.is_placed.ensures text c.requires.some (imported text) ((imported_exactly text (imported text)).1 refl) true (sym c.is_full.ensures ∙ c.if-is_full.true), refl, refl)

pub returns-in_err-value : goal.returns-in_err-value
returns-in_err-value g c =
    let s = state_of (g.C.Calculator.stored c.args.calculator.now) c.args.desk.now in
    nothing_done c.from_residual.result c.requires.sound
    (unread s c.args.name.now c.args.at c.args.text.now c.is_placed.ensures c.requires.some c.imported_value.result _ c.from_residual.result (sym c.is_full.ensures ∙ c.if-is_full.false)
    c.in_err-value.was c.imported_value.ensures.too_long c.from_residual.ensures.1)

pub returns-in_err-next : goal.returns-in_err-next
returns-in_err-next g c =
    let s = state_of (g.C.Calculator.stored c.args.calculator.now) c.args.desk.now in
    lacked_first _ c.from_residual-in_err-next.result c.requires.sound
    (put_of s c.args.name.now c.args.at c.is_placed.ensures c.args.text.now c.requires.some (Some c.in_ok-value.value) ((imported_exactly c.args.text.now (Some c.in_ok-value.value)).1 c.in_ok-value.ensures.value) false (sym c.is_full.ensures ∙ c.if-is_full.false))
    c.from_residual-in_err-next.ensures.1

pub returns-in_err-switch_to : goal.returns-in_err-switch_to
returns-in_err-switch_to g c =
    let s = state_of (g.C.Calculator.stored c.args.calculator.now) c.args.desk.now in
    lacked_last _ c.from_residual-in_err-switch_to.result
    (put_of s c.args.name.now c.args.at c.is_placed.ensures c.args.text.now c.requires.some (Some c.in_ok-value.value) ((imported_exactly c.args.text.now (Some c.in_ok-value.value)).1 c.in_ok-value.ensures.value) false (sym c.is_full.ensures ∙ c.if-is_full.false))
    c.from_residual-in_err-switch_to.ensures.1 c.in_err-switch_to.ensures

pub returns : goal.returns
returns g c =
    let s = state_of (g.C.Calculator.stored c.args.calculator.now) c.args.desk.now in
    done_with _
    (put_of s c.args.name.now c.args.at c.is_placed.ensures c.args.text.now c.requires.some (Some c.in_ok-value.value) ((imported_exactly c.args.text.now (Some c.in_ok-value.value)).1 c.in_ok-value.ensures.value) false (sym c.is_full.ensures ∙ c.if-is_full.false))
    (ap (λ (xs : List Scenario). record s { scenarios = xs }) c.in_ok-next.ensures) c.in_ok-switch_to.ensures
