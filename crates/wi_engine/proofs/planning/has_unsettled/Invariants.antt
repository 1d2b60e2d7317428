use Rattle.wi_engine.proofs.Words.{◌≡◌, filter, length, list_any, keys_of, nat_cmp, contains, is_within, from_next}
use Rattle.wi_engine.specs.Inner.Plans.{is_unsettled}
use Rattle.wi_engine.proofs.planning.has_unsettled.Given as goal

abbrev pub invariant-loop-ahead : goal.invariant-loop-ahead
invariant-loop-ahead l =
    list_any (is_unsettled l.store.sheet (contains nat_cmp l.settled)) (from_next l.store.sheet l.area l.ahead) ≡ list_any (is_unsettled l.store.sheet (contains nat_cmp l.settled)) (filter (is_within l.area) (keys_of l.store.sheet))

abbrev pub decreases-loop-ahead : goal.decreases-loop-ahead
decreases-loop-ahead l = length (from_next l.store.sheet l.area l.ahead)
