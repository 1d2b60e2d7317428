use Rattle.wi_scenarios.proofs.Words.{◌∙◌, List, ℕ, ap, rules, is_one_of, state_of}
use Rattle.wi_scenarios.proofs.SessionLemmas.{sound_new, grown_state}
use Rattle.wi_scenarios.proofs.session.add.Goals as goal

pub returns-clause-state : goal.returns-clause-state
returns-clause-state g c =
    grown_state (state_of (g.C.Calculator.stored c.args.calculator.now) c.args.desk.now) c.args.name.now _ c.len-place.result (search rules) c.len-place.ensures

pub returns-clause-made : goal.returns-clause-made
returns-clause-made g c =
    let new = c.in_ok-push.ensures.pending in
    (new.0, search rules, λ a. new.2 a ∙ ap (λ (xs : List ℕ). is_one_of xs a) (c.deref.ensures.value ∙ c.in_ok-cells.ensures.cells))

pub returns-clause-sound : goal.returns-clause-sound
returns-clause-sound g c =
    sound_new (g.C.Calculator.stored c.args.calculator.now) c.args.desk.now _ c.len-place.result c.args.name.now c.deref.result.now c.in_ok-push.ensures.pending.0 c.requires.few c.len-place.ensures
    (search rules) (search rules) c.in_ok-push.ensures.pending.2 (c.deref.ensures.value ∙ c.in_ok-cells.ensures.cells) c.in_ok-cells.ensures.closed (search rules) c.requires.sound
