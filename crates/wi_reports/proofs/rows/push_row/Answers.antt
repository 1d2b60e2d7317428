use Rattle.wi_reports.proofs.Words.{string_bytes, cells_of_row, starts_itself, starts_joined, text_under}
use Rattle.wi_reports.proofs.RowLemmas.{row_done}
use Rattle.wi_reports.proofs.rows.push_row.Goals as goal

pub returns-clause-ok : goal.returns-clause-ok
returns-clause-ok g c =
    let sheet = (g.C.Calculator.stored c.args.calculator.now).sheet in
    row_done string_bytes c.push_record.result (text_under sheet c.args.replacements.now) (cells_of_row c.args.row c.args.area) _ _ _ _ _
    c.new-texts.ensures.items c.deref.ensures.value c.in_ok-push_texts.ensures.texts c.push_record.ensures.ok

pub push_texts-requires-clause-order : goal.push_texts-requires-clause-order
push_texts-requires-clause-order g c = c.requires.order

pub returns-clause-kept : goal.returns-clause-kept
returns-clause-kept g c = starts_joined c.push_record.result _ _ _ c.push_record.ensures.ok c.push_record.ensures.err

pub returns-in_err-push_texts-clause-kept : goal.returns-in_err-push_texts-clause-kept
returns-in_err-push_texts-clause-kept g c = starts_itself _
