use Rattle.wi_engine.proofs.Words.{◌≡◌, ◌∙◌, inl, Some, slice_get, ap, sym, IfOk-weaker, rules}
use Rattle.wi_parser.specs.View.{tree_of, all_of}
use Rattle.wi_parser.specs.Tree.{call}
use Rattle.wi_value_functions.specs.declared.function.Function.TheVariants.{References}
use Rattle.wi_functions.proofs.Parameters.{call_found}
use Rattle.wi_engine.specs.Inner.Sure.{FirstIsSure, IsListedWith, IsOneSure, IsSure}
use Rattle.wi_engine.proofs.beside.SureCells.{first_sure, listed_then, listed_wider, of_folds, of_values, of_lazy, sure_there}
use Rattle.wi_engine.proofs.beside.+walking.Goals as goal

pub push_sure_of_call-returns-in-Ok-Lazy : goal.push_sure_of_call-returns-in-Ok-Lazy
push_sure_of_call-returns-in-Ok-Lazy t c =
    IfOk-weaker c.push_sure_of_first.result _ _
    (λ x. of_lazy c.args.store.now.sheet c.args.frame.now c.args.name.now (all_of c.args.parameters.now) c.in-Ok-Lazy.field-0-0 c.args.cells.now.items c.push_sure_of_first.new.cells.items
    (λ cells what_ifs. sym (call_found c.args.parameters.now _ _ _ _ cells what_ifs c.in-Ok-Lazy.ensures.found c.in-Ok-Lazy.field-0-is c.as_str.ensures))) c.push_sure_of_first.ensures

pub push_sure_of_call-returns-in-Ok-Values : goal.push_sure_of_call-returns-in-Ok-Values
push_sure_of_call-returns-in-Ok-Values t c =
    IfOk-weaker c.push_sure_of_all.result _ _
    (λ x. of_values c.args.store.now.sheet c.args.frame.now c.args.name.now (all_of c.args.parameters.now) c.in-Ok-Values.field-0-0 c.args.cells.now.items c.push_sure_of_all.new.cells.items
    (λ cells what_ifs. sym (call_found c.args.parameters.now _ _ _ _ cells what_ifs c.in-Ok-Values.ensures.found c.in-Ok-Values.field-0-is c.as_str.ensures))) c.push_sure_of_all.ensures

pub push_sure_of_call-returns-in-Fold : goal.push_sure_of_call-returns-in-Fold
push_sure_of_call-returns-in-Fold t c =
    IfOk-weaker c.push_sure_of_all-in-Fold.result _ _
    (λ x. of_folds c.args.store.now.sheet c.args.frame.now c.args.name.now (all_of c.args.parameters.now) c.in-Fold.field-0 c.args.cells.now.items c.push_sure_of_all-in-Fold.new.cells.items
    (λ cells what_ifs. sym (call_found c.args.parameters.now _ _ _ _ cells what_ifs c.in-Ok-References.ensures.found (c.in-Ok-References.field-0-is ∙ ap References c.in-Fold.is) c.as_str.ensures))) c.push_sure_of_all-in-Fold.ensures

pub push_sure_of_call-returns-in-Lookup : goal.push_sure_of_call-returns-in-Lookup
push_sure_of_call-returns-in-Lookup t c =
    let none : IsListedWith c.args.store.now.sheet c.args.frame.now (IsSure (call c.args.name.now (all_of c.args.parameters.now))) c.args.cells.now.items c.args.cells.now.items = λ d m. inl m in
    search none

pub push_sure_of_all-loop-expr-preserved : goal.push_sure_of_all-loop-expr-preserved
push_sure_of_all-loop-expr-preserved t c =
    let one = IsOneSure (all_of c.args.exprs.now) in
    let e = c.expr-item.result in
    listed_then c.args.store.now.sheet c.args.frame.now one c.args.cells.now.items c.loop-expr.cells.items c.push_sure.new.cells.items c.loop-expr.invariant
    (listed_wider c.args.store.now.sheet c.args.frame.now (IsSure (tree_of e)) one c.loop-expr.cells.items c.push_sure.new.cells.items
    (λ d. sure_there c.args.exprs.now c.loop-expr.expr-index e d c.loop-expr-test.true c.expr-item.is) c.in_ok-push_sure.ensures)

pub push_sure_of_first-returns-in-Some : goal.push_sure_of_first-returns-in-Some
push_sure_of_first-returns-in-Some t c =
    let e = c.in-Some.first.now in
    let first : Some e ≡ slice_get c.args.exprs.now 0 = search rules in
    IfOk-weaker c.push_sure.result _ _
    (λ x. listed_wider c.args.store.now.sheet c.args.frame.now (IsSure (tree_of e)) (FirstIsSure (all_of c.args.exprs.now)) c.args.cells.now.items c.push_sure.new.cells.items
    (λ d. first_sure c.args.exprs.now e d first)) c.push_sure.ensures
