use Rattle.wi_parser.proofs.Words.{arith, ◌≡◌, ◌-◌, suc, ap, sym, subst, expression, Finds}
use Rattle.wi_parser.proofs.grammar.+expression.Goals as goal

pub returns-then-depth-eq0-clause-finds : goal.returns-then-depth-eq0-clause-finds
unfolding expression
returns-then-depth-eq0-clause-finds t c =
    let zeroth : c.args.depth ≡ 0 = omega arith in
    ap (λ d. expression d c.args.symbols.now) zeroth

pub returns-clause-finds : goal.returns-clause-finds
unfolding expression
returns-clause-finds t c =
    let more : c.args.depth ≡ suc (c.args.depth - 1) = omega arith in
    subst (λ d. Finds (expression d c.args.symbols.now) c.level.result c.level.new.symbols) (sym more) c.level.ensures.finds
