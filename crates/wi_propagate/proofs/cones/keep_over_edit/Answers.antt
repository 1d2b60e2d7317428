use Rattle.wi_propagate.proofs.Words.{◌∙◌, sym}
use Rattle.wi_propagate.proofs.KeptCones.{cones_beside, none_recorded}
use Rattle.wi_propagate.proofs.cones.keep_over_edit.Goals as goal

pub returns-then-is_empty : goal.returns-then-is_empty
returns-then-is_empty c = λ s t a b h. none_recorded t c.args.cones.now (sym c.reaches.ensures ∙ c.is_empty.ensures.0 c.if-is_empty.true)

pub returns-else-not-readers_stay : goal.returns-else-not-readers_stay
returns-else-not-readers_stay c = λ s t a b h. cones_beside s t c.args.cones.now (c.readers_stay.ensures c.if-not-readers_stay.false s t a b) h

pub returns-then-not-readers_stay : goal.returns-then-not-readers_stay
returns-then-not-readers_stay c = λ s t a b h. none_recorded t c.new.result c.new.ensures
