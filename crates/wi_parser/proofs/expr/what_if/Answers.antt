use Rattle.wi_parser.proofs.Words.{List, map, ap, ◌∙◌, Pair, what_if, pair_of}
use Rattle.wi_parser.proofs.ExprTrees.{what_if_made}
use Rattle.wi_parser.proofs.expr.what_if.Goals as goal

pub returns : goal.returns
returns c =
    what_if_made c.in_ok-new.field-0 (record { formula_cell = c.args.formula_cell; pairs = c.in_ok-pairs.pairs }) c.in_ok-new.ensures.ok
    ∙ ap (λ (ps : List Pair). what_if c.args.formula_cell (map pair_of ps)) c.in_ok-pairs.ensures.items
