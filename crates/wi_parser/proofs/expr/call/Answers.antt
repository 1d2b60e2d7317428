use Rattle.wi_parser.proofs.Words.{List, ℕ, ap, ◌∙◌, call, all_of}
use Rattle.wi_parser.proofs.ExprTrees.{call_made}
use Rattle.wi_parser.proofs.expr.call.Goals as goal

pub returns : goal.returns
returns c =
    call_made c.in_ok-parts.parts (c.in_ok-name.name, c.args.parameters) c.in_ok-parts.ensures.ok
    ∙ ap (λ (n : List ℕ). call n (all_of c.args.parameters.items)) c.in_ok-name.ensures
