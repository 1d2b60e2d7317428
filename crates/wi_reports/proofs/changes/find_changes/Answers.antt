use Rattle.wi_reports.proofs.Words.{◌+◌, ◌∙◌, drop, ap, rules, arith, common_steps, left_more, Stored, demanded, shown, changes_among}
use Rattle.wi_reports.proofs.ChangeLemmas.{not_none, one_looked}
use Rattle.wi_reports.proofs.CostLemmas.{within_all, cell_asked}
use Rattle.wi_reports.proofs.changes.find_changes.Goals as goal

pub value_under-requires : goal.value_under-requires
value_under-requires g c = c.requires

pub loop-at-preserved : goal.loop-at-preserved
loop-at-preserved g c =
    let old = c.loop-at.invariant in
    let put = c.args.replacements.now in
    let cells = c.args.cells.now in
    let i = c.loop-at.at-index in
    let a = c.at-item.result in
    let stored = g.C.Calculator.stored c.args.calculator.now in
    let picture = c.args.picture.now in
    let shown_now = shown stored.sheet put in
    record {
      same = c.in_ok-value.ensures.same ∙ old.same;
      found = one_looked cells picture shown_now i a c.in_ok-value.value c.loop-at.found.items _ (changes_among cells picture shown_now) c.loop-at-test.true c.at-item.is
          (c.in_ok-value.ensures.value ∙ ap (λ (s : Stored). shown s.sheet put a) old.same) (grind rules) old.found;
      quiet = not_none cells i c.loop-at-test.true;
      cost = cell_asked (λ s. demanded s.sheet put) stored _ a (drop (i + 1) cells) old.same (left_more cells i a c.loop-at-test.true c.at-item.is) old.cost c.in_ok-value.ensures.cost;
    }

pub returns-clause-found : goal.returns-clause-found
returns-clause-found g c = grind (arith, common_steps)

pub returns-clause-cost : goal.returns-clause-cost
returns-clause-cost g c = within_all c.loop-at.invariant.cost

pub returns-in_err-value-clause-same : goal.returns-in_err-value-clause-same
returns-in_err-value-clause-same g c = c.in_err-value.ensures.same ∙ c.loop-at.invariant.same

pub returns-in_err-value-clause-quiet : goal.returns-in_err-value-clause-quiet
returns-in_err-value-clause-quiet g c = not_none c.args.cells.now c.loop-at.at-index c.loop-at-test.true

pub returns-in_err-value-clause-cost : goal.returns-in_err-value-clause-cost
returns-in_err-value-clause-cost g c =
    let cells = c.args.cells.now in
    let i = c.loop-at.at-index in
    within_all (cell_asked (λ s. demanded s.sheet c.args.replacements.now) _ _ c.at-item.result (drop (i + 1) cells) c.loop-at.invariant.same (left_more cells i c.at-item.result c.loop-at-test.true c.at-item.is) c.loop-at.invariant.cost
    c.in_err-value.ensures.cost)

pub returns-in_err-push-clause-same : goal.returns-in_err-push-clause-same
returns-in_err-push-clause-same g c = c.in_ok-value.ensures.same ∙ c.loop-at.invariant.same

pub returns-in_err-push-clause-quiet : goal.returns-in_err-push-clause-quiet
returns-in_err-push-clause-quiet g c = not_none c.args.cells.now c.loop-at.at-index c.loop-at-test.true

pub returns-in_err-push-clause-cost : goal.returns-in_err-push-clause-cost
returns-in_err-push-clause-cost g c =
    let cells = c.args.cells.now in
    let i = c.loop-at.at-index in
    within_all (cell_asked (λ s. demanded s.sheet c.args.replacements.now) _ _ c.at-item.result (drop (i + 1) cells) c.loop-at.invariant.same (left_more cells i c.at-item.result c.loop-at-test.true c.at-item.is) c.loop-at.invariant.cost
    c.in_ok-value.ensures.cost)
