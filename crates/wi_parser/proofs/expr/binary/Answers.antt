use Rattle.wi_parser.proofs.ExprTrees.{binary_made}
use Rattle.wi_parser.proofs.expr.binary.Goals as goal

pub returns : goal.returns
returns c = let made = binary_made c.args.op c.in_ok-operands.operands (c.args.left, c.args.right) c.in_ok-operands.ensures.ok in search made
