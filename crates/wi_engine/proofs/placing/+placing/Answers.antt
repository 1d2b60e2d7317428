use Rattle.wi_engine.proofs.Words.{◌≡◌, ◌==◌, ◌∙◌, true, rules, ap, arith, subst, sym, IfSome, IfSome_then, Tree}
use Rattle.wi_parser.proofs.ExprTrees.{cell_tree, rectangle_tree}
use Rattle.wi_parser.specs.Tree.{cell, rectangle}
use Rattle.wi_parser.specs.View.{tree_of, all_of}
use Rattle.wi_engine.specs.Inner.Placing.{IsPlacedAs, plain_reference}
use Rattle.wi_engine.proofs.placing.PlacedTrees.{all_as, binary_as, call_as, corner_as, if_placed, one_more_as}
use Rattle.wi_engine.proofs.placing.+placing.Goals as goal

-- ---- an expression, by its kind

pub placed-returns-in-Cell : goal.placed-returns-in-Cell
placed-returns-in-Cell t c =
    let s = c.args.store.now.sheet in
    let ps = c.args.places.now in
    let is : tree_of c.args.expr.now ≡ cell c.in-Cell.reference = ap tree_of c.in-Cell.is ∙ cell_tree c.in-Cell.reference in
    if_placed (IsPlacedAs s ps (cell (plain_reference c.in-Cell.reference.at))) (IsPlacedAs s ps (tree_of c.args.expr.now)) c.placed_cell.result
    (λ p h. subst (λ (u : Tree). IsPlacedAs s ps u p) (sym is) h) c.placed_cell.ensures

pub placed-returns-then-eq : goal.placed-returns-then-eq
placed-returns-then-eq t c =
    let s = c.args.store.now.sheet in
    let ps = c.args.places.now in
    let corners = c.in-Rectangle.corners in
    let is : tree_of c.args.expr.now ≡ rectangle corners = ap tree_of c.in-Rectangle.is ∙ rectangle_tree corners in
    let one : (corners.one.at == corners.other.at) ≡ true = search rules in
    if_placed (IsPlacedAs s ps (cell (plain_reference corners.one.at))) (IsPlacedAs s ps (tree_of c.args.expr.now)) c.placed_cell-then-eq.result
    (λ p h. subst (λ (u : Tree). IsPlacedAs s ps u p) (sym is) (corner_as s ps corners p one h)) c.placed_cell-then-eq.ensures

-- ---- two operands

pub binary-returns : goal.binary-returns
binary-returns t c =
    let s = c.args.store.now.sheet in
    let ps = c.args.places.now in
    let left = tree_of c.args.left.now in
    let right = tree_of c.args.right.now in
    let second : IfSome c.in_ok-y.field-0 (IsPlacedAs s ps right) = search rules in
    binary_as s ps c.args.operator left right c.in-Some.x c.in-Some-2.y c.in_ok-operands.operands c.in_ok-operands.ensures.ok (rw c.in-Some.is at c.in_ok-x.ensures) (rw c.in-Some-2.is at second)

-- ---- a call

pub called-returns-in-Some : goal.called-returns-in-Some
called-returns-in-Some t c =
    IfSome_then c.placed_call.result c.placed_call.ensures (λ p found.
    call_as c.args.store.now.sheet c.args.places.now c.args.name.now (all_of c.args.parameters.now) c.in-Some.parameters.items p found (rw c.in-Some.is at c.in_ok-parameters.ensures))

pub all_placed-loop-parameter-preserved : goal.all_placed-loop-parameter-preserved
all_placed-loop-parameter-preserved t c =
    one_more_as c.args.store.now.sheet c.args.places.now c.args.parameters.now c.loop-parameter.parameter-index c.parameter-item.result c.loop-parameter.all.items c.push.new.self.items c.in-Some.one
    c.loop-parameter-test.true c.parameter-item.is c.in_ok-push.ensures.items (rw c.in-Some.is at c.in_ok-one.ensures) c.loop-parameter.invariant

pub all_placed-returns : goal.all_placed-returns
all_placed-returns t c = all_as c.args.store.now.sheet c.args.places.now c.args.parameters.now c.loop-parameter.parameter-index c.loop-parameter.all.items (omega (arith, c.loop-parameter-test.false)) c.loop-parameter.invariant
