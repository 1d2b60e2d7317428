use Rattle.wi_parser.proofs.Words.{Some, ap, ◌∙◌, sym, err_from_is_err_and, as_call, called, expression, parameters_at, put_before, lt_trans}
use Rattle.wi_parser.proofs.Turns.{fails_as}
use Rattle.wi_parser.proofs.Parameters.{put_before-nothing}
use Rattle.wi_parser.proofs.Shorter.{past_open}
use Rattle.wi_parser.proofs.grammar.Grammar.called.Goals as goal

pub returns-then-not-take_open-clause-finds : goal.returns-then-not-take_open-clause-finds
returns-then-not-take_open-clause-finds g c = ap (called (expression c.args.self.now.depth) c.args.name.now) c.if-not-take_open.ensures.no.0

pub returns-in_err-parameters-clause-finds : goal.returns-in_err-parameters-clause-finds
returns-in_err-parameters-clause-finds g c =
    let i = expression c.args.self.now.depth in
    let f = c.args.name.now in
    let found = parameters_at i c.take_open.new.self in
    let nothing = ap (λ es. put_before es found) c.new-parameters.ensures.items ∙ put_before-nothing found in
    let p = err_from_is_err_and c.from_residual.result c.from_residual.ensures.1 in
    rw (p.1, p.2) (fails_as c.in_err-parameters.field-0.0 _ _
    (λ none. ap (called i f) c.if-not-take_open.ensures.yes ∙ ap (as_call f) (sym nothing ∙ none))
    c.in_err-parameters.ensures.finds)

pub returns-clause-finds : goal.returns-clause-finds
returns-clause-finds g c =
    let i = expression c.args.self.now.depth in
    let f = c.args.name.now in
    let found = parameters_at i c.take_open.new.self in
    let nothing = ap (λ es. put_before es found) c.new-parameters.ensures.items ∙ put_before-nothing found in
    ap (called i f) c.if-not-take_open.ensures.yes ∙ ap (as_call f) (sym nothing ∙ c.in_ok-parameters.ensures.finds)
    ∙ ap (λ t. Some (t, c.parameters.new.symbols)) (sym c.in_ok-call.ensures)

pub returns-clause-shorter : goal.returns-clause-shorter
returns-clause-shorter g c = lt_trans c.in_ok-parameters.ensures.shorter (past_open _ _ c.if-not-take_open.ensures.yes)
