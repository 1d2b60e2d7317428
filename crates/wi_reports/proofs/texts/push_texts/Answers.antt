use Rattle.wi_reports.proofs.Words.{◌+◌, ◌-◌, ◌∙◌, arith, common_steps, string_bytes, text_under, refl, ap, demanded, cells_cases}
use Rattle.wi_reports.proofs.TextLemmas.{one_text, all_texts}
use Rattle.wi_reports.proofs.RowLemmas.{cells_in, row_is}
use Rattle.wi_reports.proofs.CostLemmas.{all_left, within_all, cell_asked, row_left}
use Rattle.wi_reports.proofs.texts.push_texts.Goals as goal

pub loop-column-preserved : goal.loop-column-preserved
loop-column-preserved g c =
    let old = c.loop-column.invariant in
    let first = c.column-first.result in
    let column = c.loop-column.column in
    record {
      within = omega arith;
      same = c.in_ok-push_text_under.ensures.same ∙ old.same;
      texts = one_text string_bytes (λ s. text_under s.sheet c.args.replacements.now) _ _ _ c.args.row first (column - first) (column + 1 - first) column c.at.result _ _ (omega arith) (omega arith) old.same c.at.ensures
          old.texts c.in_ok-push_text_under.ensures.text;
      cost = cell_asked (λ s. demanded s.sheet c.args.replacements.now) _ _ c.at.result (cells_in c.args.row (column + 1) ((c.column-column-end.result + 1) - (column + 1))) old.same (row_left c.args.row column (c.column-column-end.result + 1) c.at.result c.loop-column-test.true c.at.ensures) old.cost c.in_ok-push_text_under.ensures.cost;
    }

pub returns-clause-texts : goal.returns-clause-texts
returns-clause-texts g c =
    let first = c.column-first.result in
    all_texts (text_under (g.C.Calculator.stored c.args.calculator.now).sheet c.args.replacements.now) c.args.area c.args.row _ first _ c.column-column-end.result (c.loop-column.column - first) _ _
    c.first.ensures c.column-first.ensures.value c.last.ensures c.column-column-end.ensures.value (omega arith) c.loop-column.invariant.texts

pub push_text_under-requires : goal.push_text_under-requires
push_text_under-requires g c = c.requires.order

pub returns-in_err-push_text_under-clause-same : goal.returns-in_err-push_text_under-clause-same
returns-in_err-push_text_under-clause-same g c = c.in_err-push_text_under.ensures.same ∙ c.loop-column.invariant.same

pub loop-column-init : goal.loop-column-init
loop-column-init g c =
    let first = c.column-first.result in
    record {
      within = omega arith;
      same = refl;
      texts = grind (arith, common_steps);
      cost = all_left (g.C.Calculator.stored c.args.calculator.now).sheet _ (ap (cells_cases (g.C.Calculator.stored c.args.calculator.now).sheet c.args.replacements.now)
          (row_is c.args.area c.args.row _ first _ c.column-column-end.result _ c.first.ensures c.column-first.ensures.value c.last.ensures c.column-column-end.ensures.value (omega arith)));
    }

pub returns-clause-cost : goal.returns-clause-cost
returns-clause-cost g c = within_all c.loop-column.invariant.cost

pub returns-in_err-push_text_under-clause-cost : goal.returns-in_err-push_text_under-clause-cost
returns-in_err-push_text_under-clause-cost g c =
    let column = c.loop-column.column in
    within_all (cell_asked (λ s. demanded s.sheet c.args.replacements.now) _ _ c.at.result (cells_in c.args.row (column + 1) ((c.column-column-end.result + 1) - (column + 1))) c.loop-column.invariant.same
    (row_left c.args.row column (c.column-column-end.result + 1) c.at.result c.loop-column-test.true c.at.ensures) c.loop-column.invariant.cost c.in_err-push_text_under.ensures.cost)
