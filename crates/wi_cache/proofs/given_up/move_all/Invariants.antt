use Rattle.std.proofs.Common.{◌≡◌, ◌≤◌, length, reverse}
use Rattle.std.specs.HashMap.{spare}
use Rattle.wi_cache.specs.Entries.{all_put}
use Rattle.wi_cache.proofs.given_up.move_all.Given as goal

-- what is left stands the other way round, and there is room for it
abbrev pub invariant-moved : goal.invariant-moved
invariant-moved l = record {
  whole : all_put l.table.entries (reverse l.list.items) ≡ all_put l.fn.table.entries l.fn.list.items;
  space : length l.list.items ≤ spare l.table;
}

abbrev pub decreases-moved : goal.decreases-moved
decreases-moved l = length l.list.items
