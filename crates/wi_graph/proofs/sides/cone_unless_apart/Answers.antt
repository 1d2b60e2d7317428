use Rattle.wi_graph.proofs.Words.{◌∙◌, ℕ, List, Option, IfSome, IfOk, subst, Vec, IsConeOf}
use Rattle.wi_graph.proofs.sides.cone_unless_apart.Goals as goal

pub returns-clause-cone : goal.returns-clause-cone
returns-clause-cone c =
    subst (λ (xs : List ℕ). IfOk c.listed_unless_apart.result (λ (o : Option (Vec ℕ)). IfSome o (λ cone. IsConeOf c.args.edit.now.readers.now xs cone.items))) (c.deref.ensures ∙ c.in_ok-cells.ensures) c.listed_unless_apart.ensures.cone
