use Rattle.wi_functions.proofs.Words.{◌∙◌, sym, IfSome_then}
use Rattle.wi_functions.proofs.PlacedValues.{place_seen}
use Rattle.wi_functions.proofs.placed.lent.Goals as goal

pub returns-in-Place : goal.returns-in-Place
returns-in-Place c = IfSome_then c.at_place.result c.at_place.ensures.some (λ v h. h ∙ sym (place_seen _ _ c.args.values.now c.in-Place.is))
