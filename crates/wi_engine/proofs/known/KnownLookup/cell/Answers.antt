use Rattle.wi_engine.proofs.Words.{ap, sym, ◌∙◌, Option, Content, known_in, found_value, None}
use Rattle.wi_engine.proofs.attempt.KnownValues.{known_constant}
use Rattle.wi_engine.proofs.known.KnownLookup.cell.Goals as goal

pub returns-in-Some : goal.returns-in-Some
returns-in-Some c =
    let k = c.args.self.now in
    let found = found_value k.found.now c.args.at in
    c.standing.ensures ∙ ap (λ (o : Option Content). known_in o None) c.constant.ensures ∙ known_constant c.in-Some.value.now None found
    ∙ ap (λ (o : Option Content). known_in o found) (sym (c.in-Some.ensures.some k.store.now.sheet))
