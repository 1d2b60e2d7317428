use Rattle.wi_functions.proofs.Words.{◌≡◌, sym, ◌∙◌, value_at, Fault}
use Rattle.wi_functions.proofs.choice.unless_error.Goals as goal

pub returns-in-Fault : goal.returns-in-Fault
returns-in-Fault c = λ n args l h.
    let fault : value_at args 0 ≡ Fault c.in-Fault.field-0 = sym h ∙ c.in-Fault.is in
    search fault
