use Rattle.wi_parser.proofs.Words.{arith, ◌<◌, length, Some, ap, sym, subst, ◌∙◌, err_from_is_err_and, read_then, percents, level, tree_of}
use Rattle.wi_parser.proofs.Marks.{percent-length}
use Rattle.wi_parser.proofs.Turns.{fails_as, percents_stop, percents_more}
use Rattle.wi_parser.proofs.Shorter.{past_percent}
use Rattle.wi_parser.proofs.grammar.Grammar.percents.Goals as goal

pub returns-in_err-operand-clause-finds : goal.returns-in_err-operand-clause-finds
unfolding level
returns-in_err-operand-clause-finds g c =
    let p = err_from_is_err_and c.from_residual.result c.from_residual.ensures.1 in
    rw (p.1, p.2) (fails_as c.in_err-operand.field-0.0 _ _ (λ none. ap (read_then percents) none) c.in_err-operand.ensures.finds)

pub loop-operand-init : goal.loop-operand-init
unfolding level
loop-operand-init g c = (ap (read_then percents) c.in_ok-operand.ensures.finds, c.in_ok-operand.ensures.shorter)

pub loop-operand-preserved : goal.loop-operand-preserved
loop-operand-preserved g c =
    let l = c.loop-operand in
    let new = c.take_percent.new.self in
    let taken = c.loop-operand-test.ensures.yes in
    let short = percent-length l.symbols new taken in
    (l.invariant.0 ∙ percents_more (tree_of l.operand) l.symbols new taken ∙ ap (λ t. percents t new) (sym c.in_ok-operand-2.ensures), omega arith)

pub returns-clause-finds : goal.returns-clause-finds
returns-clause-finds g c =
    let l = c.loop-operand in
    let none = c.loop-operand-test.ensures.no in
    l.invariant.0 ∙ percents_stop (tree_of l.operand) l.symbols none.0 ∙ ap (λ ws. Some (tree_of l.operand, ws)) (sym none.1)

pub loop-operand-smaller : goal.loop-operand-smaller
loop-operand-smaller g c = past_percent _ _ c.loop-operand-test.ensures.yes

pub returns-clause-shorter : goal.returns-clause-shorter
returns-clause-shorter g c =
    subst (λ ws. length ws < length c.args.symbols.now) (sym c.loop-operand-test.ensures.no.1) c.loop-operand.invariant.1
