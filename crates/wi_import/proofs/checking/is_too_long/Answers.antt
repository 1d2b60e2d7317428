use Rattle.wi_import.proofs.Words.{◌≡◌, ◌∙◌, sym, ap, not, is_some, false, nat_lt, length, arith, nat_tests}
use Rattle.wi_import.proofs.FieldLemmas.{long_unread, short_fits, none_found}
use Rattle.wi_import.proofs.checking.is_too_long.Goals as goal

pub returns-then-field-gt-MAX_TEXT : goal.returns-then-field-gt-MAX_TEXT
returns-then-field-gt-MAX_TEXT c =
    none_found c.is_none.result c.read.result c.is_none.ensures ∙ ap (λ o. not (is_some o)) c.read.ensures
    ∙ sym (long_unread c.args.field.now c.if-field-gt-MAX_TEXT.true)

pub returns-else-field-gt-MAX_TEXT : goal.returns-else-field-gt-MAX_TEXT
returns-else-field-gt-MAX_TEXT c =
    let short = c.if-field-gt-MAX_TEXT.false in
    let fails : nat_lt 32767 (length c.args.field.now) ≡ false = grind (arith, nat_tests, short) in
    fails ∙ sym (short_fits c.args.field.now short)
