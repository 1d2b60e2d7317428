use Rattle.wi_tiles.proofs.Words.{Some, ◌≡◌, ◌↔◌, IsTrue, not, room_of}
use Rattle.wi_tiles.proofs.RoomLemmas.{vacant_there}
use Rattle.wi_tiles.proofs.rooms.has_vacant.Goals as goal

pub returns-in-Some : goal.returns-in-Some
returns-in-Some g c =
    let told : IsTrue (not c.is_taken.result) ↔ (room_of c.args.rooms.now.entries c.args.at ≡ Some g.V.MayBeVacant.vacant) =
    vacant_there g.V.MayBeVacant.vacant g.V.MayBeVacant.is_taken g.met.V.MayBeVacant.tells c.is_taken.result c.in-Some.room.now _ c.is_taken.ensures c.in-Some.ensures in
    search told
