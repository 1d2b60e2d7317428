use Rattle.wi_scenarios.proofs.Words.{◌≡◌, ◌∙◌, length, refl, arith, common_steps, IfOk-weaker, effective, pending_of, session_at, List, Replacement, ap, asked_same, nothing_asked, cells_cases, ◌<◌, false≢true}
use Rattle.wi_scenarios.proofs.ChangesLemmas.{changes_found, nothing_found}
use Rattle.wi_scenarios.proofs.changes.find.Goals as goal

pub returns-clause-list : goal.returns-clause-list
returns-clause-list g c =
    let stored = g.C.Calculator.stored c.args.calculator.now in
    let d = c.args.desk.now in
    let cells : c.deref-2.result.now ≡ (pending_of c.args.desk.now.sessions c.args.desk.now.current) = c.deref-2.ensures.value ∙ c.in_ok-cells.ensures.list in
    let put : c.deref.result.now ≡ effective d.scenarios (session_at d.sessions d.current).scenario = c.deref.ensures.value ∙ c.in_ok-put.ensures.value in
    IfOk-weaker c.find_changes.result _ _
    (λ found is. changes_found stored d (pending_of c.args.desk.now.sessions c.args.desk.now.current) c.deref-2.result.now c.deref.result.now c.picture-picture.result.now found.items
    c.requires c.in_ok-cells.ensures.order refl cells put c.picture-picture.ensures is)
    c.find_changes.ensures.found

pub returns-then-is_empty-clause-list : goal.returns-then-is_empty-clause-list
returns-then-is_empty-clause-list g c =
    let none : length c.in_ok-cells.cells.items ≡ 0 = grind (arith, common_steps) in
    nothing_found (g.C.Calculator.stored c.args.calculator.now) c.args.desk.now (pending_of c.args.desk.now.sessions c.args.desk.now.current) c.in_ok-cells.cells.items c.new.result.items
    c.requires c.in_ok-cells.ensures.order refl c.in_ok-cells.ensures.list none c.new.ensures.items

pub returns-then-is_empty-clause-none : goal.returns-then-is_empty-clause-none
returns-then-is_empty-clause-none g c = λ none. search c.new.ensures.items

pub returns-then-is_empty-clause-cost : goal.returns-then-is_empty-clause-cost
returns-then-is_empty-clause-cost g c = nothing_asked _ _ _

pub returns-in_err-cells-clause-cost : goal.returns-in_err-cells-clause-cost
returns-in_err-cells-clause-cost g c = nothing_asked _ _ _

pub returns-in_err-put-clause-cost : goal.returns-in_err-put-clause-cost
returns-in_err-put-clause-cost g c = nothing_asked _ _ _

pub returns-clause-cost : goal.returns-clause-cost
returns-clause-cost g c =
    let sheet = (g.C.Calculator.stored c.args.calculator.now).sheet in
    let d = c.args.desk.now in
    asked_same
    (ap (λ (rs : List Replacement). cells_cases sheet rs c.deref-2.result.now) (c.deref.ensures.value ∙ c.in_ok-put.ensures.value)
    ∙ ap (cells_cases sheet (effective d.scenarios (session_at d.sessions d.current).scenario)) (c.deref-2.ensures.value ∙ c.in_ok-cells.ensures.list)) c.find_changes.ensures.cost

pub returns-in_err-cells-clause-none : goal.returns-in_err-cells-clause-none
returns-in_err-cells-clause-none g c = λ none. absurd (false≢true (c.in_err-cells.ensures.none none (c.requires.full c.args.desk.now.current)))

pub returns-in_err-put-clause-none : goal.returns-in_err-put-clause-none
returns-in_err-put-clause-none g c =
    let some : 0 < length c.in_ok-cells.cells.items = grind (arith, common_steps) in
    λ none. absurd (let l : length c.in_ok-cells.cells.items ≡ 0 = ap length (c.in_ok-cells.ensures.list ∙ none) in omega (arith, some, l))

pub returns-clause-none : goal.returns-clause-none
returns-clause-none g c =
    let some : 0 < length c.in_ok-cells.cells.items = grind (arith, common_steps) in
    λ none. absurd (let l : length c.in_ok-cells.cells.items ≡ 0 = ap length (c.in_ok-cells.ensures.list ∙ none) in omega (arith, some, l))
