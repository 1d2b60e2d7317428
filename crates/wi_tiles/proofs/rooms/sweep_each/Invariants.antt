use Rattle.wi_tiles.proofs.Words.{drop, keys_of, HoldsTheSame, AreInEdit}
use Rattle.wi_tiles.proofs.rooms.sweep_each.Given as goal

abbrev pub invariant-loop-at : goal.invariant-loop-at
invariant-loop-at g l = record {
  same : HoldsTheSame g.V.MayBeVacant.vacant l.initial.rooms.entries l.rooms.entries;
  edit : AreInEdit g.V.MayBeVacant.vacant (keys_of (drop l.at-index l.changes)) l.rooms.entries;
}
