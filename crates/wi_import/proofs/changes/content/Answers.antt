use Rattle.wi_import.proofs.Words.{rules}
use Rattle.wi_import.proofs.FieldLemmas.{utf8_found, read_ok, constant_is, empty_is}
use Rattle.wi_import.proofs.changes.content.Goals as goal

pub unwrap-text-requires : goal.unwrap-text-requires
unwrap-text-requires c =
    let found = utf8_found c.args.field.now c.from_utf8.result _ _ c.from_utf8.ensures.cases (λ s h. h.1) (λ e h. h.0) in
    read_ok c.args.field.now c.from_utf8.result found c.requires.text

pub returns-in-Ok : goal.returns-in-Ok
returns-in-Ok c = constant_is c.args.field.now c.in-Ok.value (search rules) (search rules)

pub returns-in-Ok-Empty : goal.returns-in-Ok-Empty
returns-in-Ok-Empty c = empty_is c.args.field.now c.in-Ok-Empty.field-0 (search rules) c.in-Ok-Empty.field-0-is
