use Rattle.std.proofs.Common.{sym, refl}
use Rattle.std.proofs.lemmas.List.{append-nil}
use Rattle.std.proofs.Transfers.{starts_with_trans}
use Rattle.wi_csv.proofs.Growth.{starts_itself, starts_either}
use Rattle.wi_csv.proofs.Joined.{written_more, comma_more, row_done}
use Rattle.wi_csv.proofs.row.push_all.Goals as goal

pub loop-field-preserved : goal.loop-field-preserved
loop-field-preserved g c =
    let old = c.loop-field.invariant in
    let text = g.F.AsSlice.items in
    let fields = c.args.fields.now in
    let i = c.loop-field.field-index in
    record {
      written = written_more text fields i c.field-item.result _ _ _ _ _ c.loop-field-test.true c.field-item.is old.written old.separator c.as_slice.ensures c.in_ok-push_field.ensures.ok;
      separator = comma_more text fields i c.field-item.result c.loop-field-test.true c.field-item.is;
      kept = starts_with_trans _ _ _ c.push_field.ensures.kept old.kept;
    }

pub returns-clause-ok : goal.returns-clause-ok
returns-clause-ok g c =
    row_done c.extend_from_slice.result g.F.AsSlice.items c.args.fields.now c.loop-field.field-index _ _ _ c.loop-field-test.false c.loop-field.invariant.written c.extend_from_slice.ensures.items

pub loop-field-init : goal.loop-field-init
loop-field-init g c = record { written = sym (append-nil _); separator = refl; kept = starts_itself _ }

pub returns-in_err-push_field-clause-kept : goal.returns-in_err-push_field-clause-kept
returns-in_err-push_field-clause-kept g c = starts_with_trans _ _ _ c.push_field.ensures.kept c.loop-field.invariant.kept

pub returns-clause-kept : goal.returns-clause-kept
returns-clause-kept g c = starts_either _ _ _ _ _ c.extend_from_slice.ensures.items c.loop-field.invariant.kept
