use Rattle.wi_reports.proofs.Words.{[], ◌∷◌, ◌++◌, map, ap, ◌∙◌, string_bytes, row_of, cells_of_row, starts_itself, starts_joined, text_under, cells_cases}
use Rattle.wi_reports.proofs.TableLemmas.{after_first, written_as}
use Rattle.wi_reports.proofs.CostLemmas.{nothing_asked, asked_same}
use Rattle.wi_reports.proofs.table.push_head.Goals as goal

pub push_texts-requires-clause-order : goal.push_texts-requires-clause-order
push_texts-requires-clause-order g c = c.requires

pub returns-clause-ok : goal.returns-clause-ok
returns-clause-ok g c =
    let cells = c.args.cells in
    let text = text_under (g.C.Calculator.stored c.args.calculator.now).sheet c.args.replacements.now in
    let texts = map text (cells_of_row (row_of cells.first) cells) in
    let all = c.in_ok-push_texts.ensures.texts ∙ ap (λ r. map string_bytes c.push.new.self.items ++ map text (cells_of_row r cells)) (c.row-row.ensures.value ∙ ap row_of c.first.ensures) in
    written_as string_bytes c.push_record.result ([] ∷ texts) _ _ _ _ c.deref.ensures.value
    (after_first string_bytes _ c.push.new.self.items _ _ [] texts c.new-texts.ensures.items c.in_ok-push.ensures.items c.new.ensures.bytes all) c.push_record.ensures.ok

pub returns-clause-kept : goal.returns-clause-kept
returns-clause-kept g c = starts_joined c.push_record.result _ _ _ c.push_record.ensures.ok c.push_record.ensures.err

pub returns-in_err-push-clause-kept : goal.returns-in_err-push-clause-kept
returns-in_err-push-clause-kept g c = starts_itself _

pub returns-in_err-push_texts-clause-kept : goal.returns-in_err-push_texts-clause-kept
returns-in_err-push_texts-clause-kept g c = starts_itself _

pub returns-clause-cost : goal.returns-clause-cost
returns-clause-cost g c = asked_same (ap (λ r. cells_cases (g.C.Calculator.stored c.args.calculator.now).sheet c.args.replacements.now (cells_of_row r c.args.cells)) (c.row-row.ensures.value ∙ ap row_of c.first.ensures)) c.in_ok-push_texts.ensures.cost

pub returns-in_err-push_texts-clause-cost : goal.returns-in_err-push_texts-clause-cost
returns-in_err-push_texts-clause-cost g c = asked_same (ap (λ r. cells_cases (g.C.Calculator.stored c.args.calculator.now).sheet c.args.replacements.now (cells_of_row r c.args.cells)) (c.row-row.ensures.value ∙ ap row_of c.first.ensures)) c.in_err-push_texts.ensures.cost

pub returns-in_err-push-clause-cost : goal.returns-in_err-push-clause-cost
returns-in_err-push-clause-cost g c = nothing_asked _ _ _
