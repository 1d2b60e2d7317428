use Rattle.wi_parser.proofs.Words.{Some, option_map, ap, ◌∙◌, sym, err_from_is_err_and, read_then, then_close, parenthesized, tree_of, lt_trans}
use Rattle.wi_parser.proofs.Turns.{fails_as}
use Rattle.wi_parser.proofs.Shorter.{past_close}
use Rattle.wi_parser.proofs.grammar.Grammar.enclosed.Goals as goal

pub returns-in_err-inner-clause-finds : goal.returns-in_err-inner-clause-finds
returns-in_err-inner-clause-finds g c =
    let p = err_from_is_err_and c.from_residual.result c.from_residual.ensures.1 in
    rw (p.1, p.2) (fails_as c.in_err-inner.field-0.0 _ _ (λ none. ap (read_then (λ t. then_close (parenthesized t))) none) c.in_err-inner.ensures.finds)

pub returns-then-not-take_close-clause-finds : goal.returns-then-not-take_close-clause-finds
returns-then-not-take_close-clause-finds g c =
    let inside = c.in_ok-inner in
    ap (read_then (λ t. then_close (parenthesized t))) inside.ensures.finds
    ∙ ap (option_map (λ rest. (parenthesized (tree_of inside.inner), rest))) c.if-not-take_close.ensures.no.0

pub returns-clause-finds : goal.returns-clause-finds
returns-clause-finds g c =
    let inside = c.in_ok-inner in
    ap (read_then (λ t. then_close (parenthesized t))) inside.ensures.finds
    ∙ ap (option_map (λ rest. (parenthesized (tree_of inside.inner), rest))) c.if-not-take_close.ensures.yes
    ∙ ap (λ t. Some (t, c.take_close.new.self)) (sym c.in_ok-parenthesized.ensures)

pub returns-clause-shorter : goal.returns-clause-shorter
returns-clause-shorter g c = lt_trans (past_close _ _ c.if-not-take_close.ensures.yes) c.in_ok-inner.ensures.shorter
