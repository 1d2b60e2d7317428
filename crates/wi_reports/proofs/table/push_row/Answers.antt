use Rattle.wi_reports.proofs.Words.{◌∙◌, string_bytes, starts_itself, starts_joined, entries_beside, entries_cases}
use Rattle.wi_reports.proofs.TableLemmas.{row_written}
use Rattle.wi_reports.proofs.CostLemmas.{asked_of, both_asked, front_asked}
use Rattle.wi_reports.proofs.table.push_row.Goals as goal

pub push_text_under-requires : goal.push_text_under-requires
push_text_under-requires g c = c.requires.order

pub push_entries-requires-clause-order : goal.push_entries-requires-clause-order
push_entries-requires-clause-order g c = c.requires.order

pub returns-clause-ok : goal.returns-clause-ok
returns-clause-ok g c =
    let table = c.args.table.now in
    row_written string_bytes c.push_record.result _ (λ s. entries_beside s.sheet c.args.replacements.now table.formula_cell table.input table.second c.args.x) (g.C.Calculator.stored c.args.calculator.now) _ _ _ _ _ _ _
    c.new-texts.ensures.items c.in_ok-push_text_under.ensures.text c.in_ok-push_text_under.ensures.same c.in_ok-push_entries.ensures.texts c.deref.ensures.value c.push_record.ensures.ok

pub push_entries-requires-clause-row : goal.push_entries-requires-clause-row
push_entries-requires-clause-row g c = c.requires.row

pub returns-clause-kept : goal.returns-clause-kept
returns-clause-kept g c = starts_joined c.push_record.result _ _ _ c.push_record.ensures.ok c.push_record.ensures.err

pub returns-clause-same : goal.returns-clause-same
returns-clause-same g c = c.in_ok-push_entries.ensures.same ∙ c.in_ok-push_text_under.ensures.same

pub returns-in_err-push_text_under-clause-kept : goal.returns-in_err-push_text_under-clause-kept
returns-in_err-push_text_under-clause-kept g c = starts_itself _

pub returns-in_err-push_entries-clause-kept : goal.returns-in_err-push_entries-clause-kept
returns-in_err-push_entries-clause-kept g c = starts_itself _

pub returns-clause-cost : goal.returns-clause-cost
returns-clause-cost g c =
    both_asked c.in_ok-push_text_under.ensures.cost (asked_of (λ s. entries_cases s.sheet c.args.replacements.now c.args.table.now.formula_cell c.args.table.now.input c.args.table.now.second c.args.x) _ _ c.in_ok-push_text_under.ensures.same c.in_ok-push_entries.ensures.cost)

pub returns-in_err-push_text_under-clause-cost : goal.returns-in_err-push_text_under-clause-cost
returns-in_err-push_text_under-clause-cost g c = front_asked _ c.in_err-push_text_under.ensures.cost

pub returns-in_err-push_entries-clause-cost : goal.returns-in_err-push_entries-clause-cost
returns-in_err-push_entries-clause-cost g c =
    both_asked c.in_ok-push_text_under.ensures.cost (asked_of (λ s. entries_cases s.sheet c.args.replacements.now c.args.table.now.formula_cell c.args.table.now.input c.args.table.now.second c.args.x) _ _ c.in_ok-push_text_under.ensures.same c.in_err-push_entries.ensures.cost)
