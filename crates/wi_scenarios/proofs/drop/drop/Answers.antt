use Rattle.wi_scenarios.proofs.Words.{◌∙◌, refl, sym, rules, state_of}
use Rattle.wi_scenarios.specs.declared.refusal.Refusal.TheVariants.{NoScenario, InUse}
use Rattle.wi_scenarios.proofs.ScenarioSteps.{not_dropped, drop_unknown, drop_used, drop_done, sound_without}
use Rattle.wi_scenarios.proofs.drop.drop.Goals as goal

pub returns-then-not-contains-clause-dropped : goal.returns-then-not-contains-clause-dropped
returns-then-not-contains-clause-dropped g c =
    let s = state_of (g.C.Calculator.stored c.args.calculator.now) c.args.desk.now in
    not_dropped NoScenario (drop_unknown s c.args.name.now (sym c.contains.ensures ∙ c.if-not-contains.true), refl, refl) (λ e. cc)

pub returns-then-is_used-clause-dropped : goal.returns-then-is_used-clause-dropped
returns-then-is_used-clause-dropped g c =
    let s = state_of (g.C.Calculator.stored c.args.calculator.now) c.args.desk.now in
    not_dropped InUse (drop_used s c.args.name.now (sym c.contains.ensures ∙ c.if-not-contains.false) (search rules), refl, refl) (λ e. cc)

pub returns-clause-dropped : goal.returns-clause-dropped
returns-clause-dropped g c =
    let s = state_of (g.C.Calculator.stored c.args.calculator.now) c.args.desk.now in
    record {
      step = drop_done s c.args.name.now c.remove.new.self c.remove.ensures (sym c.contains.ensures ∙ c.if-not-contains.false) (search rules) (search rules);
      pending = refl;
      counts = (refl, refl);
      no_memory = λ e. cc;
    }

pub returns-clause-sound : goal.returns-clause-sound
returns-clause-sound g c =
    sound_without (g.C.Calculator.stored c.args.calculator.now) c.args.desk.now c.remove.new.self c.args.name.now c.remove.ensures (search rules) (search rules) c.requires
