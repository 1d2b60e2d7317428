use Rattle.std.proofs.Common.{◌≡◌, take}
use Rattle.wi_cache.specs.Entries.{all_put, value_for}
use Rattle.wi_cache.proofs.given_up.look_among.Given as goal

-- those behind are of other keys
abbrev pub invariant-loop-i : goal.invariant-loop-i
invariant-loop-i l = value_for (all_put l.fn.table.entries (take l.i l.list)) l.key ≡ value_for (all_put l.fn.table.entries l.list) l.key
