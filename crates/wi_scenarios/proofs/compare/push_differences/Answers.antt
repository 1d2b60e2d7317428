use Rattle.wi_scenarios.proofs.Words.{◌∙◌, ◌++◌, List, sym, ap, subst, option_copied, on_ok_weaker, IsInOrder, Replacement, effective, cells_compared, shown, asked_same, nothing_asked, comparison_cases}
use Rattle.wi_scenarios.proofs.compare.push_differences.Goals as goal

pub push_comparison-requires : goal.push_comparison-requires
push_comparison-requires g c =
    (subst IsInOrder (sym c.deref.ensures.value) c.in_ok-before.ensures.order, subst IsInOrder (sym c.deref-2.ensures.value) c.in_ok-after.ensures.order)

pub returns-clause-ok : goal.returns-clause-ok
returns-clause-ok g c =
    let sheet = (g.C.Calculator.stored c.args.calculator.now).sheet in
    let before = c.args.out.now.items in
    on_ok_weaker c.push_comparison.result
    (λ wrote. wrote
    ∙ ap (λ (rs : List Replacement). before ++ cells_compared (shown sheet rs) (shown sheet c.deref-2.result.now) c.args.area) (c.deref.ensures.value ∙ c.in_ok-before.ensures.value)
    ∙ ap (λ (rs : List Replacement). before ++ cells_compared (shown sheet (effective c.args.desk.now.scenarios (option_copied c.args.compared.now.first))) (shown sheet rs) c.args.area) (c.deref-2.ensures.value ∙ c.in_ok-after.ensures.value))
    c.push_comparison.ensures.ok

pub returns-in_err-before-clause-cost : goal.returns-in_err-before-clause-cost
returns-in_err-before-clause-cost g c = nothing_asked _ _ _

pub returns-in_err-after-clause-cost : goal.returns-in_err-after-clause-cost
returns-in_err-after-clause-cost g c = nothing_asked _ _ _

pub returns-clause-cost : goal.returns-clause-cost
returns-clause-cost g c =
    let sheet = (g.C.Calculator.stored c.args.calculator.now).sheet in
    asked_same
    (ap (λ (rs : List Replacement). comparison_cases sheet rs c.deref-2.result.now c.args.area) (c.deref.ensures.value ∙ c.in_ok-before.ensures.value)
    ∙ ap (λ (rs : List Replacement). comparison_cases sheet (effective c.args.desk.now.scenarios (option_copied c.args.compared.now.first)) rs c.args.area) (c.deref-2.ensures.value ∙ c.in_ok-after.ensures.value))
    c.push_comparison.ensures.cost
