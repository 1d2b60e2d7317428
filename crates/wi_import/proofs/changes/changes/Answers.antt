use Rattle.wi_import.proofs.Words.{◌∙◌, ap, list_any, IfOk-from_err, row_of, column_of, is_faulty}
use Rattle.wi_import.proofs.FieldLemmas.{all_fields_left, none_changed, all_records_changed, this_record, later_records, record_changed}
use Rattle.wi_import.proofs.changes.changes.Goals as goal

pub loop-i-init : goal.loop-i-init
loop-i-init c = record {
  whole = none_changed (row_of c.args.at) (column_of c.args.at) c.args.records.now _ c.in_ok-changes.ensures.items;
  sound = ap (list_any is_faulty) (all_fields_left (row_of c.args.at) (column_of c.args.at) c.args.records.now) ∙ c.requires;
}

pub push_record-requires : goal.push_record-requires
push_record-requires c =
    this_record is_faulty (row_of c.args.at) (column_of c.args.at) c.row.result c.column.result c.loop-i.i c.args.records.now c.index-records-i.result c.deref.result.now
    c.loop-i-test.true c.index-records-i.is c.row.ensures.value c.column.ensures.value c.deref.ensures.value c.loop-i.invariant.sound

pub loop-i-preserved : goal.loop-i-preserved
loop-i-preserved c = record {
  whole = record_changed (row_of c.args.at) (column_of c.args.at) c.row.result c.column.result c.loop-i.i c.args.records.now c.index-records-i.result c.deref.result.now
      c.loop-i.changes.items c.push_record.new.changes.items _
      c.loop-i-test.true c.index-records-i.is c.row.ensures.value c.column.ensures.value c.deref.ensures.value c.in_ok-push_record.ensures c.loop-i.invariant.whole;
  sound = later_records is_faulty (row_of c.args.at) (column_of c.args.at) c.loop-i.i c.args.records.now c.index-records-i.result c.loop-i-test.true c.index-records-i.is c.loop-i.invariant.sound;
}

pub returns : goal.returns
returns c = all_records_changed (row_of c.args.at) (column_of c.args.at) c.loop-i.i c.args.records.now c.loop-i.changes.items _ c.loop-i-test.false c.loop-i.invariant.whole

pub returns-in_err-push_record : goal.returns-in_err-push_record
returns-in_err-push_record c = IfOk-from_err c.from_residual-in_err-push_record.result _ c.from_residual-in_err-push_record.ensures.0

pub returns-in_err-changes : goal.returns-in_err-changes
returns-in_err-changes c = IfOk-from_err c.from_residual.result _ c.from_residual.ensures.0
