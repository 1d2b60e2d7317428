use Rattle.wi_parser.proofs.Words.{◌<◌, Some, ap, ◌∙◌, sym, subst, length, err_from_is_err_and, expression, more_parameters, first_parameter, parameters_at, FindsMore, put_before, tree_of}
use Rattle.wi_parser.proofs.Turns.{fails_as}
use Rattle.wi_parser.proofs.Parameters.{parameters_first, parameters_bad, before-none, put_before-first}
use Rattle.wi_parser.proofs.Shorter.{past_close, still_less}
use Rattle.wi_parser.proofs.grammar.Grammar.parameters.Goals as goal

pub returns-then-take_close-clause-finds : goal.returns-then-take_close-clause-finds
unfolding parameters_at
returns-then-take_close-clause-finds g c =
    let found = c.args.found.now.items in
    ap (put_before found) (ap (first_parameter (expression c.args.self.now.depth) c.args.symbols.now) c.if-take_close.ensures.yes)
    ∙ ap (λ all. Some (all, c.take_close.new.self)) (before-none found)

pub returns-in_err-inner-clause-finds : goal.returns-in_err-inner-clause-finds
returns-in_err-inner-clause-finds g c =
    let i = expression c.args.self.now.depth in
    let open_still = c.if-take_close.ensures.no in
    let p = err_from_is_err_and c.from_residual.result c.from_residual.ensures.1 in
    rw (p.1, p.2) (fails_as c.in_err-inner.field-0.0 _ _
    (λ none. ap (put_before c.args.found.now.items) (parameters_bad i c.args.symbols.now open_still.0 (ap i (sym open_still.1) ∙ none))) c.in_err-inner.ensures.finds)

pub returns-clause-finds : goal.returns-clause-finds
returns-clause-finds g c =
    let i = expression c.args.self.now.depth in
    let found = c.args.found.now.items in
    let e = c.in_ok-inner.field-0 in
    let rest = c.inner.new.symbols in
    let open_still = c.if-take_close.ensures.no in
    let first = parameters_first i c.args.symbols.now rest (tree_of e) open_still.0 (ap i (sym open_still.1) ∙ c.in_ok-inner.ensures.finds) in
    let others = more_parameters i (length rest) rest in
    let same = ap (put_before found) first ∙ put_before-first found e others ∙ ap (λ es. put_before es others) (sym c.in_ok-push.ensures.items) in
    subst (λ r. FindsMore r c.more_parameters.result c.more_parameters.new.found.items c.more_parameters.new.symbols) (sym same) c.more_parameters.ensures.finds

pub returns-then-take_close-clause-shorter : goal.returns-then-take_close-clause-shorter
returns-then-take_close-clause-shorter g c = past_close _ _ c.if-take_close.ensures.yes

pub returns-clause-shorter : goal.returns-clause-shorter
returns-clause-shorter g c =
    still_less _ _ _ _ (subst (λ ws. length c.inner.new.symbols < length ws) c.if-take_close.ensures.no.1 c.in_ok-inner.ensures.shorter) c.more_parameters.ensures.shorter
