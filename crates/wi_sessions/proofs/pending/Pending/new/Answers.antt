use Rattle.wi_sessions.proofs.Words.{List, map, length, ap, range_with_len, Unread, cells_in, vacant_in}
use Rattle.wi_sessions.proofs.PlaceLemmas.{kept_none}
use Rattle.wi_sessions.proofs.pending.Pending.new.Goals as goal

pub returns-clause-pending : goal.returns-clause-pending
returns-clause-pending c = ap (λ (us : List Unread). map (cells_in c.new-words.result.entries c.new-staged.result.items) (range_with_len 0 (length us))) c.new-unread.ensures.items

pub returns-clause-vacant : goal.returns-clause-vacant
returns-clause-vacant c = ap (λ (us : List Unread). map (vacant_in c.new-words.result.entries c.new-staged.result.items) (range_with_len 0 (length us))) c.new-unread.ensures.items

pub invariant_of-result : goal.invariant_of-result
invariant_of-result c =
    kept_none c.new-words.result.entries c.new-staged.result.items c.new-changed.result.items c.new-unread.result.items c.new-words.ensures c.new-staged.ensures.items c.new-unread.ensures.items
