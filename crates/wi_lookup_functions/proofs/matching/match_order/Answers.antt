use Rattle.wi_lookup_functions.proofs.Words.{Some, sym, ap, ◌∙◌}
use Rattle.wi_lookup_functions.proofs.matching.match_order.Goals as goal

pub returns-then-same_kind : goal.returns-then-same_kind
returns-then-same_kind c = rw (sym c.same_kind.ensures ∙ c.if-same_kind.true) (ap Some (search c.order.ensures))
