use Rattle.wi_parser.proofs.Words.{arith, ◌<◌, length, Some, OnOk, ap, ◌∙◌, sym, subst, err_from_is_err_and, signed_read, atom, level, expression, Finds, lt_trans}
use Rattle.wi_parser.proofs.Turns.{fails_as, prefix_stop, prefix_more}
use Rattle.wi_parser.proofs.Shorter.{past_sign}
use Rattle.wi_parser.proofs.grammar.Grammar.+prefixed.Goals as goal

pub returns-in_default-clause-finds : goal.returns-in_default-clause-finds
unfolding level
returns-in_default-clause-finds g t c =
    let next = atom (expression c.args.self.now.depth) in
    let same = prefix_stop next c.args.symbols.now c.in_default.ensures.0 ∙ ap next (sym c.in_default.ensures.1) in
    subst (λ found. Finds found c.atom.result c.atom.new.symbols) (sym same) c.atom.ensures.finds

pub returns-in_err-operand-clause-finds : goal.returns-in_err-operand-clause-finds
unfolding level
returns-in_err-operand-clause-finds g t c =
    let next = atom (expression c.args.self.now.depth) in
    let s = c.in-Some.sign in
    let p = err_from_is_err_and c.from_residual.result c.from_residual.ensures.1 in
    rw (p.1, p.2) (fails_as c.in_err-operand.field-0.0 _ _
    (λ none. prefix_more next s c.args.symbols.now c.take_sign.new.self c.in-Some.ensures ∙ ap (signed_read s) none)
    c.in_err-operand.ensures.finds)

pub returns-clause-finds : goal.returns-clause-finds
unfolding level
returns-clause-finds g t c =
    let next = atom (expression c.args.self.now.depth) in
    let s = c.in-Some.sign in
    prefix_more next s c.args.symbols.now c.take_sign.new.self c.in-Some.ensures ∙ ap (signed_read s) c.in_ok-operand.ensures.finds
    ∙ ap (λ t. Some (t, c.prefixed.new.symbols)) (sym c.in_ok-signed.ensures)

pub returns-in_default-clause-shorter : goal.returns-in_default-clause-shorter
returns-in_default-clause-shorter g t c =
    subst (λ ws. OnOk c.atom.result (length c.atom.new.symbols < length ws)) c.in_default.ensures.1 c.atom.ensures.shorter

pub returns-clause-shorter : goal.returns-clause-shorter
returns-clause-shorter g t c = lt_trans c.in_ok-operand.ensures.shorter (past_sign _ _ _ c.in-Some.ensures)

pub atom-requires : goal.atom-requires
atom-requires g t c = c.requires

pub prefixed-requires : goal.prefixed-requires
prefixed-requires g t c =
    let less = past_sign _ _ _ c.in-Some.ensures in
    λ κs within. (omega arith, (within, c.requires))
