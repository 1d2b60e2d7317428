use Rattle.wi_tiles.proofs.Words.{keys_of, HoldsTheSame, AreInEdit}
use Rattle.wi_tiles.proofs.RoomChanges.{HaveRooms}
use Rattle.wi_tiles.proofs.rooms.make_rooms.Given as goal

abbrev pub invariant-loop-at : goal.invariant-loop-at
invariant-loop-at g l = record {
  same : HoldsTheSame g.V.MayBeVacant.vacant l.initial.rooms.entries l.rooms.entries;
  edit : AreInEdit g.V.MayBeVacant.vacant (keys_of l.changes) l.rooms.entries;
  room : HaveRooms g.V.MayBeVacant.vacant l.at-index l.rooms.entries l.changes;
}
