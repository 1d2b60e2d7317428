use Rattle.wi_import.proofs.Words.{◌∙◌, ap, arith, list_any, IfOk-from_err, is_bad, is_too_long, content_of, is_faulty}
use Rattle.wi_import.proofs.FieldLemmas.{this_field, all_cells_left, none_changed_yet, all_fields_changed, field_changed, later_fields}
use Rattle.wi_import.proofs.changes.push_record.Goals as goal

pub loop-j-init : goal.loop-j-init
loop-j-init c = record {
  whole = none_changed_yet c.args.row c.args.column c.args.fields.now _;
  sound = ap (list_any is_faulty) (all_cells_left c.args.row c.args.column c.args.fields.now) ∙ c.requires;
}

pub overflow_cast-row : goal.overflow_cast-row
overflow_cast-row c =
    let this = this_field c.args.row c.args.column c.loop-j.j c.args.fields.now c.index-fields-j.result c.loop-j-test.true c.index-fields-j.is c.loop-j.invariant.sound in
    let within = this.2 in
    omega (arith, within)

pub overflow_add-column : goal.overflow_add-column
overflow_add-column c =
    let this = this_field c.args.row c.args.column c.loop-j.j c.args.fields.now c.index-fields-j.result c.loop-j-test.true c.index-fields-j.is c.loop-j.invariant.sound in
    let within = this.3 in
    omega (arith, within)

pub overflow_cast-column : goal.overflow_cast-column
overflow_cast-column c =
    let this = this_field c.args.row c.args.column c.loop-j.j c.args.fields.now c.index-fields-j.result c.loop-j-test.true c.index-fields-j.is c.loop-j.invariant.sound in
    let within = this.3 in
    omega (arith, within)

pub at-cell-requires-clause-row_within : goal.at-cell-requires-clause-row_within
at-cell-requires-clause-row_within c =
    (this_field c.args.row c.args.column c.loop-j.j c.args.fields.now c.index-fields-j.result c.loop-j-test.true c.index-fields-j.is c.loop-j.invariant.sound).2

pub at-cell-requires-clause-column_within : goal.at-cell-requires-clause-column_within
at-cell-requires-clause-column_within c =
    (this_field c.args.row c.args.column c.loop-j.j c.args.fields.now c.index-fields-j.result c.loop-j-test.true c.index-fields-j.is c.loop-j.invariant.sound).3

pub content-requires-clause-text : goal.content-requires-clause-text
content-requires-clause-text c =
    ap is_bad c.deref.ensures.value
    ∙ (this_field c.args.row c.args.column c.loop-j.j c.args.fields.now c.index-fields-j.result c.loop-j-test.true c.index-fields-j.is c.loop-j.invariant.sound).0

pub content-requires-clause-short : goal.content-requires-clause-short
content-requires-clause-short c =
    ap is_too_long c.deref.ensures.value
    ∙ (this_field c.args.row c.args.column c.loop-j.j c.args.fields.now c.index-fields-j.result c.loop-j-test.true c.index-fields-j.is c.loop-j.invariant.sound).1

pub loop-j-preserved : goal.loop-j-preserved
loop-j-preserved c = record {
  whole = field_changed c.args.row c.args.column c.loop-j.j c.args.fields.now c.index-fields-j.result c.at-cell.result c.in_ok-content.field-0 c.loop-j.changes.items _ _
      c.loop-j-test.true c.index-fields-j.is c.at-cell.ensures (c.in_ok-content.ensures ∙ ap content_of c.deref.ensures.value) c.in_ok-push.ensures.items c.loop-j.invariant.whole;
  sound = later_fields is_faulty c.args.row c.args.column c.loop-j.j c.args.fields.now c.index-fields-j.result c.loop-j-test.true c.index-fields-j.is c.loop-j.invariant.sound;
}

pub returns : goal.returns
returns c = all_fields_changed c.args.row c.args.column c.loop-j.j c.args.fields.now c.loop-j.changes.items _ c.loop-j-test.false c.loop-j.invariant.whole

pub returns-in_err-push : goal.returns-in_err-push
returns-in_err-push c = IfOk-from_err c.from_residual-in_err-push.result _ c.from_residual-in_err-push.ensures.0

pub returns-in_err-content : goal.returns-in_err-content
returns-in_err-content c = IfOk-from_err c.from_residual.result _ c.from_residual.ensures.0
