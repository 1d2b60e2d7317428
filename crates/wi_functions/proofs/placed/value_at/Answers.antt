use Rattle.wi_functions.proofs.Words.{◌≡◌, IfOk, Value, refl, sym, ◌∙◌, subst}
use Rattle.wi_functions.proofs.PlacedValues.{place_seen}
use Rattle.wi_functions.proofs.placed.value_at.Goals as goal

pub returns-in-Some : goal.returns-in-Some
returns-in-Some c = subst (λ (x : Value). IfOk c.copy.result (λ v. v ≡ x)) (c.in-Some.ensures.some ∙ sym (place_seen _ _ c.args.values.now refl)) c.copy.ensures

pub returns-in-None : goal.returns-in-None
returns-in-None c = c.in-None.ensures.none ∙ sym (place_seen _ _ c.args.values.now refl)
