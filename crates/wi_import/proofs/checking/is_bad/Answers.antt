use Rattle.wi_import.proofs.FieldLemmas.{utf8_found, read_err}
use Rattle.wi_import.proofs.checking.is_bad.Goals as goal

pub returns : goal.returns
returns c =
    let found = utf8_found c.args.field.now c.from_utf8.result _ _ c.from_utf8.ensures.cases (λ s h. h.1) (λ e h. h.0) in
    read_err c.args.field.now c.from_utf8.result c.is_err.result found c.is_err.ensures.value
