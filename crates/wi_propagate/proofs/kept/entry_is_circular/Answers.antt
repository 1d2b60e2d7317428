use Rattle.wi_propagate.proofs.Words.{◌||◌, ◌∙◌, Bool, ap, sym, list_any, circular}
use Rattle.wi_propagate.proofs.kept.entry_is_circular.Goals as goal

pub returns-then-is_circular : goal.returns-then-is_circular
returns-then-is_circular c = λ s edges. ap (λ (b : Bool). b || list_any (λ x. circular s x.1) c.args.pairs.now) (sym c.if-is_circular.true ∙ c.is_circular.ensures s edges)

pub returns : goal.returns
returns c = λ s edges. c.any_circular.ensures s edges ∙ ap (λ (b : Bool). b || list_any (λ x. circular s x.1) c.args.pairs.now) (sym c.if-is_circular.false ∙ c.is_circular.ensures s edges)
