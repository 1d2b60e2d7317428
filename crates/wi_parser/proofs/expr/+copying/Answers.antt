use Rattle.wi_parser.proofs.Words.{ap, sym, ◌∙◌, tree_of}
use Rattle.wi_parser.proofs.ExprTrees.{copied_more, what_if_copied, call_copied, parenthesized_copied, signed_copied, percent_copied, binary_copied, binary_of_parts}
use Rattle.wi_parser.proofs.expr.+copying.Goals as goal

pub Expr::copy-returns-in-Rectangle : goal.Expr::copy-returns-in-Rectangle
Expr::copy-returns-in-Rectangle t c = ap tree_of (sym c.in-Rectangle.is)

pub Expr::copy-returns-in-Number : goal.Expr::copy-returns-in-Number
Expr::copy-returns-in-Number t c = ap tree_of (sym c.in-Number.is)

pub Expr::copy-returns-in-Cell : goal.Expr::copy-returns-in-Cell
Expr::copy-returns-in-Cell t c = ap tree_of (sym c.in-Cell.is)

pub Expr::copy-returns-in_ok-copied-in-Parenthesized : goal.Expr::copy-returns-in_ok-copied-in-Parenthesized
Expr::copy-returns-in_ok-copied-in-Parenthesized t c =
    parenthesized_copied _ _ _ c.in-Parenthesized.is (c.in_ok-copied-in-Parenthesized.ensures ∙ ap tree_of c.deref.ensures)

pub Expr::copy-returns-in_ok-copied-in-Signed : goal.Expr::copy-returns-in_ok-copied-in-Signed
Expr::copy-returns-in_ok-copied-in-Signed t c =
    signed_copied _ _ _ _ c.in-Signed.is (c.in_ok-copied-in-Signed.ensures ∙ ap tree_of c.deref-in-Signed.ensures)

pub Expr::copy-returns-in_ok-copied-in-Percent : goal.Expr::copy-returns-in_ok-copied-in-Percent
Expr::copy-returns-in_ok-copied-in-Percent t c =
    percent_copied _ _ _ c.in-Percent.is (c.in_ok-copied-in-Percent.ensures ∙ ap tree_of c.deref-in-Percent.ensures)

pub Expr::copy-returns-in-Binary : goal.Expr::copy-returns-in-Binary
Expr::copy-returns-in-Binary t c = binary_copied _ _ _ _ _ _ c.in-Binary.is c.deref-in-Binary.ensures c.deref-in-Binary-2.ensures c.binary_copied.ensures

pub binary_copied-returns : goal.binary_copied-returns
binary_copied-returns t c = binary_of_parts _ _ _ _ _ _ c.in_ok-left.ensures c.in_ok-right.ensures c.binary.ensures

pub copied-returns : goal.copied-returns
copied-returns t c = ap tree_of c.in_ok-new.ensures.ok ∙ c.in_ok-copy.ensures

pub Expr::copy-returns-in-WhatIf : goal.Expr::copy-returns-in-WhatIf
Expr::copy-returns-in-WhatIf t c =
    what_if_copied _ _ _ _ _ _ c.in-WhatIf.is c.deref-in-WhatIf.ensures c.deref-in-WhatIf-2.ensures c.deref-in-WhatIf-3.ensures.value c.what_if.ensures

pub Expr::copy-returns-in_ok-all_copied-in-Call : goal.Expr::copy-returns-in_ok-all_copied-in-Call
Expr::copy-returns-in_ok-all_copied-in-Call t c =
    call_copied _ _ _ _ _ _ _ c.in-Call.is c.deref-in-Call.ensures c.deref-in-Call-2.ensures c.deref-in-Call-3.ensures.value c.in_ok-all_copied-in-Call.ensures c.call.ensures

pub all_copied-loop-expr-preserved : goal.all_copied-loop-expr-preserved
all_copied-loop-expr-preserved t c =
    copied_more c.args.exprs.now c.loop-expr.copies.items c.push.new.self.items c.in_ok-copy.field-0 c.expr-item.result c.loop-expr.expr-index
    c.loop-expr-test.true c.expr-item.is c.loop-expr.invariant c.in_ok-push.ensures.items c.in_ok-copy.ensures
