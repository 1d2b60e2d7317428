use Rattle.wi_import.proofs.Words.{◌∙◌, sym, refl, true, false, row_of, column_of, fields_from, is_bad, is_too_long, all_bytes}
use Rattle.wi_import.proofs.FieldLemmas.{any_in_records, first_found}
use Rattle.wi_import.proofs.checking.first_fault.Goals as goal

pub returns-then-has_bad_field : goal.returns-then-has_bad_field
returns-then-has_bad_field c =
    let bad = any_in_records is_bad (row_of c.args.at) (column_of c.args.at) c.args.records.now ∙ sym c.has_bad_field.ensures ∙ c.if-has_bad_field.true in
    first_found (fields_from (row_of c.args.at) (column_of c.args.at) (all_bytes c.args.records.now)) true _ _ bad refl refl

pub returns-then-has_long_field : goal.returns-then-has_long_field
returns-then-has_long_field c =
    let bad = any_in_records is_bad (row_of c.args.at) (column_of c.args.at) c.args.records.now ∙ sym c.has_bad_field.ensures ∙ c.if-has_bad_field.false in
    let long = any_in_records is_too_long (row_of c.args.at) (column_of c.args.at) c.args.records.now ∙ sym c.has_long_field.ensures ∙ c.if-has_long_field.true in
    first_found (fields_from (row_of c.args.at) (column_of c.args.at) (all_bytes c.args.records.now)) false true _ bad long refl

pub returns-then-leaves_sheet : goal.returns-then-leaves_sheet
returns-then-leaves_sheet c =
    let bad = any_in_records is_bad (row_of c.args.at) (column_of c.args.at) c.args.records.now ∙ sym c.has_bad_field.ensures ∙ c.if-has_bad_field.false in
    let long = any_in_records is_too_long (row_of c.args.at) (column_of c.args.at) c.args.records.now ∙ sym c.has_long_field.ensures ∙ c.if-has_long_field.false in
    first_found (fields_from (row_of c.args.at) (column_of c.args.at) (all_bytes c.args.records.now)) false false true bad long (sym c.leaves_sheet.ensures ∙ c.if-leaves_sheet.true)

pub returns : goal.returns
returns c =
    let bad = any_in_records is_bad (row_of c.args.at) (column_of c.args.at) c.args.records.now ∙ sym c.has_bad_field.ensures ∙ c.if-has_bad_field.false in
    let long = any_in_records is_too_long (row_of c.args.at) (column_of c.args.at) c.args.records.now ∙ sym c.has_long_field.ensures ∙ c.if-has_long_field.false in
    first_found (fields_from (row_of c.args.at) (column_of c.args.at) (all_bytes c.args.records.now)) false false false bad long (sym c.leaves_sheet.ensures ∙ c.if-leaves_sheet.false)
