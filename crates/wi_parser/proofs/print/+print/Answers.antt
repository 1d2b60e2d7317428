use Rattle.wi_parser.proofs.Words.{rules, arith, ◌≡◌, ◌≤◌, suc, ◌+◌, [], ◌∷◌, length, ◌++◌, drop, drop-cons, codes, string_bytes, ap, sym, ◌∙◌, starts_with_of_eq, starts_with_trans, starts_with_of_append, drop_of_length-le, common_steps, IfOk-from_err, quoted, starts_joined, Expr, parenthesized, signed, percent, tree_of, all_of, operator_text, symbols_text, tree_text, written_as, spelling_of_all}
use Rattle.wi_parser.proofs.ExprTrees.{number_tree, text_tree, cell_tree, rectangle_tree, parenthesized_tree, signed_tree, percent_tree, binary_seen, what_if_seen, call_seen}
use Rattle.wi_parser.proofs.PrintLemmas.{after_written, parenthesized_written, parameter_written, parameters_from, parameters_closed, tree_written, symbol_written, binary_written, percent_written, starts_same, starts_on, starts_pushed}
use Rattle.wi_parser.proofs.print.+print.Goals as goal

pub push_operation-returns : goal.push_operation-returns
push_operation-returns t c =
    record {
      ok = after_written _ _ _ _ (operator_text c.args.op) _ (c.in_ok-push_str.ensures.bytes ∙ ap (λ x. string_bytes c.args.out.now ++ x) c.operator_text.ensures) c.push_tree.ensures.ok;
      kept = starts_on _ _ _ _ c.in_ok-push_str.ensures.bytes c.push_tree.ensures.kept;
    }

pub push_signed-returns : goal.push_signed-returns
push_signed-returns t c =
    record {
      ok = after_written _ _ _ _ (operator_text (written_as c.args.sign)) _ (c.in_ok-push_str.ensures.bytes ∙ ap (λ x. string_bytes c.args.out.now ++ x) c.sign_text.ensures) c.push_tree.ensures.ok;
      kept = starts_on _ _ _ _ c.in_ok-push_str.ensures.bytes c.push_tree.ensures.kept;
    }

pub push_call-returns-in_err-push_str-2 : goal.push_call-returns-in_err-push_str-2
push_call-returns-in_err-push_str-2 t c =
    record { ok = IfOk-from_err _ _ c.from_residual-in_err-push_str-2.ensures.0; kept = starts_same _ _ _ c.in_err-push_str-2.ensures.bytes (starts_with_of_append _ _ _ c.in_ok-push_str.ensures.bytes) }

pub push_call-returns : goal.push_call-returns
push_call-returns t c =
    record {
      ok = after_written _ _ _ _ c.args.name.now _ (c.in_ok-push_str.ensures.bytes ∙ ap (λ x. string_bytes c.args.out.now ++ x) c.as_str.ensures) (after_written _ _ _ _ (codes "(") _ c.in_ok-push_str-2.ensures.bytes c.push_parameters.ensures.ok);
      kept = starts_on _ _ _ _ c.in_ok-push_str.ensures.bytes (starts_on _ _ _ _ c.in_ok-push_str-2.ensures.bytes c.push_parameters.ensures.kept);
    }

pub push_parenthesized-returns-in_err-push_tree : goal.push_parenthesized-returns-in_err-push_tree
push_parenthesized-returns-in_err-push_tree t c =
    record { ok = IfOk-from_err _ _ c.from_residual-in_err-push_tree.ensures.0; kept = starts_on _ _ _ _ c.in_ok-push_str.ensures.bytes c.in_err-push_tree.ensures.kept }

pub push_parenthesized-returns : goal.push_parenthesized-returns
push_parenthesized-returns t c =
    record {
      ok = parenthesized_written _ (string_bytes c.args.out.now) _ _ _ (tree_of c.args.inner.now) c.in_ok-push_str.ensures.bytes c.in_ok-push_tree.ensures.ok c.push_str-2.ensures.bytes;
      kept = starts_pushed c.push_str-2.result _ _ _ _ c.push_str-2.ensures.bytes (starts_on _ _ _ _ c.in_ok-push_str.ensures.bytes c.in_ok-push_tree.ensures.kept);
    }

pub push_tree-returns-in_ok-push_tree-in-Binary : goal.push_tree-returns-in_ok-push_tree-in-Binary
push_tree-returns-in_ok-push_tree-in-Binary t c =
    record {
      ok = binary_written _ _ _ _ _ _ _ _ (binary_seen _ _ _ _ _ c.in-Binary.is c.deref-in-Binary.ensures c.deref-in-Binary-2.ensures) c.in_ok-push_tree-in-Binary.ensures.ok c.push_operation.ensures.ok;
      kept = starts_with_trans _ _ _ c.push_operation.ensures.kept c.in_ok-push_tree-in-Binary.ensures.kept;
    }

pub push_operation-returns-in_err-push_str : goal.push_operation-returns-in_err-push_str
push_operation-returns-in_err-push_str t c = record { ok = IfOk-from_err _ _ c.from_residual.ensures.0; kept = starts_with_of_eq _ _ c.in_err-push_str.ensures.bytes }

pub push_signed-returns-in_err-push_str : goal.push_signed-returns-in_err-push_str
push_signed-returns-in_err-push_str t c = record { ok = IfOk-from_err _ _ c.from_residual.ensures.0; kept = starts_with_of_eq _ _ c.in_err-push_str.ensures.bytes }

pub push_call-returns-in_err-push_str : goal.push_call-returns-in_err-push_str
push_call-returns-in_err-push_str t c = record { ok = IfOk-from_err _ _ c.from_residual.ensures.0; kept = starts_with_of_eq _ _ c.in_err-push_str.ensures.bytes }

pub push_parenthesized-returns-in_err-push_str : goal.push_parenthesized-returns-in_err-push_str
push_parenthesized-returns-in_err-push_str t c = record { ok = IfOk-from_err _ _ c.from_residual.ensures.0; kept = starts_with_of_eq _ _ c.in_err-push_str.ensures.bytes }

pub push_percent-returns : goal.push_percent-returns
push_percent-returns t c =
    record {
      ok = percent_written _ (string_bytes c.args.out.now) _ _ (tree_of c.args.operand.now) c.in_ok-push_tree.ensures.ok c.push_str.ensures.bytes;
      kept = starts_pushed c.push_str.result _ _ _ _ c.push_str.ensures.bytes c.in_ok-push_tree.ensures.kept;
    }

pub push_parameters-returns-in_err-push_str : goal.push_parameters-returns-in_err-push_str
push_parameters-returns-in_err-push_str t c =
    record { ok = IfOk-from_err _ _ c.from_residual.ensures.0; kept = starts_same _ _ _ c.in_err-push_str.ensures.bytes c.loop-parameter.invariant.kept }

pub push_parameters-returns-in_err-push_tree : goal.push_parameters-returns-in_err-push_tree
push_parameters-returns-in_err-push_tree t c =
    record { ok = IfOk-from_err _ _ c.from_residual-in_err-push_tree.ensures.0; kept = starts_with_trans _ _ _ (starts_on _ _ _ _ c.in_ok-push_str.ensures.bytes c.in_err-push_tree.ensures.kept) c.loop-parameter.invariant.kept }

pub push_parameters-loop-parameter-preserved : goal.push_parameters-loop-parameter-preserved
push_parameters-loop-parameter-preserved t c =
    let l = c.loop-parameter in
    let all = c.args.parameters.now in
    let i = l.parameter-index in
    let one : suc i ≡ i + 1 = omega arith in
    let rest = drop (i + 1) all in
    let item = c.parameter-item.result in
    let tree = tree_of item in
    let next = drop-cons all i item c.loop-parameter-test.true ∙ ap (λ e. e ∷ drop (suc i) all) (sym c.parameter-item.is) ∙ ap (λ k. item ∷ drop k all) one in
    let out = string_bytes l.out in
    record {
      utf8 = search rules;
      written = ap (λ x. x ++ parameters_from (codes ";") (all_of rest)) (c.in_ok-push_tree.ensures.ok ∙ ap (λ x. x ++ tree_text tree) c.in_ok-push_str.ensures.bytes)
          ∙ parameter_written out l.separator.now tree (all_of rest)
          ∙ ap (λ es. out ++ parameters_from l.separator.now (all_of es)) (sym next)
          ∙ l.invariant.written;
      kept = starts_with_trans _ _ _ (starts_on _ _ _ _ c.in_ok-push_str.ensures.bytes c.in_ok-push_tree.ensures.kept) l.invariant.kept;
    }

pub push_parameters-returns : goal.push_parameters-returns
push_parameters-returns t c =
    let over : length c.args.parameters.now ≤ c.loop-parameter.parameter-index = omega arith in
    record {
      ok = parameters_closed _ (string_bytes c.args.out.now) _ _ _ (symbols_text (spelling_of_all (all_of c.args.parameters.now))) _ (drop_of_length-le c.args.parameters.now over) c.loop-parameter.invariant.written c.push_str-2.ensures.bytes;
      kept = starts_pushed c.push_str-2.result _ _ _ _ c.push_str-2.ensures.bytes c.loop-parameter.invariant.kept;
    }

pub push_parameters-loop-parameter-init : goal.push_parameters-loop-parameter-init
push_parameters-loop-parameter-init t c = grind (arith, common_steps)

pub push_tree-returns-in-Number : goal.push_tree-returns-in-Number
push_tree-returns-in-Number t c =
    record { ok = symbol_written _ _ _ _ _ c.push_number.ensures.ok (ap tree_text (ap tree_of c.in-Number.is ∙ number_tree c.in-Number.x)); kept = starts_joined c.push_number.result _ _ _ c.push_number.ensures.ok c.push_number.ensures.err }

pub push_tree-returns-in-Text : goal.push_tree-returns-in-Text
push_tree-returns-in-Text t c =
    record { ok = symbol_written _ _ _ _ _ c.push_quoted.ensures.ok (ap tree_text (ap tree_of c.in-Text.is ∙ text_tree c.in-Text.content) ∙ ap (λ x. quoted x ++ []) (sym c.as_str.ensures)); kept = c.push_quoted.ensures.kept }

pub push_tree-returns-in-Cell : goal.push_tree-returns-in-Cell
push_tree-returns-in-Cell t c =
    record { ok = symbol_written _ _ _ _ _ c.push_reference.ensures.ok (ap tree_text (ap tree_of c.in-Cell.is ∙ cell_tree c.in-Cell.at)); kept = c.push_reference.ensures.kept }

pub push_tree-returns-in-Rectangle : goal.push_tree-returns-in-Rectangle
push_tree-returns-in-Rectangle t c =
    record { ok = symbol_written _ _ _ _ _ c.push_rectangle.ensures.ok (ap tree_text (ap tree_of c.in-Rectangle.is ∙ rectangle_tree c.in-Rectangle.corners)); kept = c.push_rectangle.ensures.kept }

pub push_tree-returns-in-Parenthesized : goal.push_tree-returns-in-Parenthesized
push_tree-returns-in-Parenthesized t c =
    record {
      ok = tree_written _ _ _ _ _ (ap tree_of c.in-Parenthesized.is ∙ parenthesized_tree c.in-Parenthesized.inner ∙ ap (λ (x : Expr). parenthesized (tree_of x)) (sym c.deref.ensures)) c.push_parenthesized.ensures.ok;
      kept = c.push_parenthesized.ensures.kept;
    }

pub push_tree-returns-in-Signed : goal.push_tree-returns-in-Signed
push_tree-returns-in-Signed t c =
    record {
      ok = tree_written _ _ _ _ _ (ap tree_of c.in-Signed.is ∙ signed_tree c.in-Signed.sign c.in-Signed.operand ∙ ap (λ (x : Expr). signed c.in-Signed.sign (tree_of x)) (sym c.deref-in-Signed.ensures)) c.push_signed.ensures.ok;
      kept = c.push_signed.ensures.kept;
    }

pub push_tree-returns-in-Percent : goal.push_tree-returns-in-Percent
push_tree-returns-in-Percent t c =
    record { ok = tree_written _ _ _ _ _ (ap tree_of c.in-Percent.is ∙ percent_tree c.in-Percent.operand ∙ ap (λ (x : Expr). percent (tree_of x)) (sym c.deref-in-Percent.ensures)) c.push_percent.ensures.ok; kept = c.push_percent.ensures.kept }

pub push_tree-returns-in-WhatIf : goal.push_tree-returns-in-WhatIf
push_tree-returns-in-WhatIf t c =
    record {
      ok = tree_written _ _ _ _ _ (what_if_seen _ _ _ _ _ c.in-WhatIf.is c.deref-in-WhatIf.ensures c.deref-in-WhatIf-2.ensures c.deref-in-WhatIf-3.ensures.value) c.push_what_if.ensures.ok;
      kept = c.push_what_if.ensures.kept;
    }

pub push_tree-returns-in-Call : goal.push_tree-returns-in-Call
push_tree-returns-in-Call t c =
    record {
      ok = tree_written _ _ _ _ _ (call_seen _ _ _ _ _ c.in-Call.is c.deref-in-Call.ensures c.deref-in-Call-2.ensures c.deref-in-Call-3.ensures.value) c.push_call.ensures.ok;
      kept = c.push_call.ensures.kept;
    }

pub push_tree-returns-in_err-push_tree-in-Binary : goal.push_tree-returns-in_err-push_tree-in-Binary
push_tree-returns-in_err-push_tree-in-Binary t c = record { ok = IfOk-from_err _ _ c.from_residual.ensures.0; kept = c.in_err-push_tree-in-Binary.ensures.kept }

pub push_percent-returns-in_err-push_tree : goal.push_percent-returns-in_err-push_tree
push_percent-returns-in_err-push_tree t c = record { ok = IfOk-from_err _ _ c.from_residual.ensures.0; kept = c.in_err-push_tree.ensures.kept }
