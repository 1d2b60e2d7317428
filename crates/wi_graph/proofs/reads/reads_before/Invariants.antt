use Rattle.wi_graph.proofs.Words.{◌≡◌, ℕ, true, take, nat_cmp, is_one_of, items_there, room_at, areas_of}
use Rattle.std.specs.BTreeMap.{get}
use Rattle.wi_graph.proofs.reads.reads_before.Given as goal

abbrev pub invariant-loop-cell : goal.invariant-loop-cell
invariant-loop-cell l = (c : ℕ) → is_one_of (take l.cell-index l.cells) c ≡ true → items_there (get nat_cmp l.reads c) ≡ areas_of (room_at l.rooms c)
