use Rattle.wi_import.proofs.Words.{◌≡◌, ◌+◌, ◌++◌, refl, ◌∙◌, ap, list_any, IfOk-from_err, row_of, column_of, is_outside}
use Rattle.wi_import.proofs.AreaLemmas.{area_before, areas_left, none_told, area_told, told_some, told_none, all_told}
use Rattle.wi_import.proofs.FieldLemmas.{all_fields_left, this_record, later_records}
use Rattle.wi_import.proofs.areas.areas.Goals.{in-Some+in_ok-push, in_default}
use Rattle.wi_import.proofs.areas.areas.Goals as goal

pub loop-i-init : goal.loop-i-init
loop-i-init c = record {
  whole = none_told (row_of c.args.at) (column_of c.args.at) c.args.records.now _ c.in_ok-areas.ensures.items;
  inside = ap (list_any is_outside) (all_fields_left (row_of c.args.at) (column_of c.args.at) c.args.records.now) ∙ c.requires;
}

pub area-requires : goal.area-requires
area-requires c =
    this_record is_outside (row_of c.args.at) (column_of c.args.at) c.row.result c.column.result c.loop-i.i c.args.records.now c.index-records-i.result c.deref.result.now
    c.loop-i-test.true c.index-records-i.is c.row.ensures.value c.column.ensures.value c.deref.ensures.value c.loop-i.invariant.inside

pub loop-i-preserved : goal.loop-i-preserved
loop-i-preserved c =
    let more = areas_left (row_of c.args.at) (column_of c.args.at) (c.loop-i.i + 1) c.args.records.now in
    let before = c.loop-i.areas.items in
    let after = c.match-area.areas.items in
    let told : after ++ more ≡ before ++ area_before c.area.result more = elim c.match-area.branch [
      | in-Some+in_ok-push w ↦ told_some before after more c.area.result w.in-Some.area w.in-Some.is (rw w.areas-is w.in_ok-push.ensures.items)
      | in_default w ↦ told_none before after more c.area.result w.in_default.is (rw w.areas-is refl)
    ] in
    record {
      whole = area_told (row_of c.args.at) (column_of c.args.at) c.row.result c.column.result c.loop-i.i c.args.records.now c.index-records-i.result c.deref.result.now c.area.result
          before after _ c.loop-i-test.true c.index-records-i.is c.row.ensures.value c.column.ensures.value c.deref.ensures.value c.area.ensures told c.loop-i.invariant.whole;
      inside = later_records is_outside (row_of c.args.at) (column_of c.args.at) c.loop-i.i c.args.records.now c.index-records-i.result c.loop-i-test.true c.index-records-i.is c.loop-i.invariant.inside;
    }

pub returns : goal.returns
returns c = all_told (row_of c.args.at) (column_of c.args.at) c.loop-i.i c.args.records.now c.loop-i.areas.items _ c.loop-i-test.false c.loop-i.invariant.whole

pub returns-in_err-push : goal.returns-in_err-push
returns-in_err-push c = IfOk-from_err c.from_residual-in_err-push.result _ c.from_residual-in_err-push.ensures.0

pub returns-in_err-areas : goal.returns-in_err-areas
returns-in_err-areas c = IfOk-from_err c.from_residual.result _ c.from_residual.ensures.0
