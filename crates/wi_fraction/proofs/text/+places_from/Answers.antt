use Rattle.wi_fraction.proofs.Vocabulary.{◌∙◌, sym}
use Rattle.wi_fraction.proofs.Places.{places_from_end, places_from_found, places_from_more}
use Rattle.wi_fraction.proofs.text.+places_from.Goals as goal

pub returns-then-tries-eq0 : goal.returns-then-tries-eq0
returns-then-tries-eq0 t c = places_from_end c.args.tries c.args.k c.args.d c.if-tries-eq0.true

pub returns-then-remainder-eq0 : goal.returns-then-remainder-eq0
returns-then-remainder-eq0 t c =
    places_from_found c.args.tries c.args.k c.args.power c.args.d c.requires.power c.if-tries-eq0.false (sym c.remainder.ensures ∙ c.if-remainder-eq0.true)

pub returns : goal.returns
returns t c =
    places_from_more c.args.tries c.args.k c.args.power c.args.d c.places_from.result c.requires.power c.if-tries-eq0.false
    (λ z. c.if-remainder-eq0.false (c.remainder.ensures ∙ z)) c.places_from.ensures
