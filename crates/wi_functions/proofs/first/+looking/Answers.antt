use Rattle.wi_functions.proofs.Words.{◌≡◌, IfSome, refl, sym, subst, rules, IfSome_then, tree_of, cell_leaf, Tree, cell, binary_seen, call_seen, the_lemmas, TreeAsks, Cell}
use Rattle.wi_functions.proofs.Asking.{leaf_asks, left_asks, right_asks}
use Rattle.wi_functions.proofs.first.+looking.Goals as goal

pub first_of-returns-in-Cell : goal.first_of-returns-in-Cell
first_of-returns-in-Cell t c =
    let r = c.in-Cell.reference in
    let is : tree_of c.args.expr.now ≡ cell r = search (rules, the_lemmas) in
    subst (λ (u : Tree). TreeAsks u (Cell r.at)) (sym is) (leaf_asks (cell_leaf r) (Cell r.at) refl)

pub first_of-returns-in-Some : goal.first_of-returns-in-Some
first_of-returns-in-Some t c =
    let both = c.deref-in-Binary.result.now in
    let is = binary_seen _ _ _ _ _ c.in-Binary.is c.deref-in-Binary.ensures c.deref-in-Binary.ensures in
    subst (λ (u : Tree). TreeAsks u (Cell c.in-Some.at)) (sym is) (left_asks c.in-Binary.field-0 (tree_of both.0) (tree_of both.1) (Cell c.in-Some.at) c.in-Some.ensures)

pub first_of-returns-in-None : goal.first_of-returns-in-None
first_of-returns-in-None t c =
    let left = tree_of c.deref-in-Binary.result.now.0 in
    let right = tree_of c.deref-in-None.result.now.1 in
    let is = binary_seen _ _ _ _ _ c.in-Binary.is c.deref-in-Binary.ensures c.deref-in-None.ensures in
    subst (λ (u : Tree). IfSome c.first_of-in-None.result (λ a. TreeAsks u (Cell a))) (sym is)
    (IfSome_then c.first_of-in-None.result c.first_of-in-None.ensures (λ a. right_asks c.in-Binary.field-0 left right (Cell a)))

pub first_of-returns-in-WhatIf : goal.first_of-returns-in-WhatIf
first_of-returns-in-WhatIf t c = search rules

pub first_of-returns-in-Call : goal.first_of-returns-in-Call
first_of-returns-in-Call t c =
    let is = call_seen _ _ _ _ _ c.in-Call.is c.deref-in-Call.ensures c.deref-in-Call-2.ensures c.deref-in-Call-3.ensures.value in
    subst (λ (u : Tree). IfSome c.first_of_call.result (λ a. TreeAsks u (Cell a))) (sym is) c.first_of_call.ensures
