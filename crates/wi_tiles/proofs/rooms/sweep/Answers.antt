use Rattle.wi_tiles.proofs.Words.{arith}
use Rattle.wi_tiles.proofs.RoomLemmas.{no_vacancy}
use Rattle.wi_tiles.proofs.rooms.sweep.Goals as goal

pub returns-else-occupied-len-clause-between : goal.returns-else-occupied-len-clause-between
returns-else-occupied-len-clause-between g c = record {
  order = c.requires.edit.order;
  full = no_vacancy g.V.MayBeVacant.vacant g.V.MayBeVacant.is_taken g.met.V.MayBeVacant.tells c.args.rooms.now.entries (omega arith);
}
