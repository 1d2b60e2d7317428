use Rattle.wi_tiles.proofs.MapSteps.{order-removed}
use Rattle.wi_tiles.proofs.RoomLemmas.{swept_same, swept_room, swept_vacant}
use Rattle.wi_tiles.proofs.rooms.sweep_one.Goals as goal

pub returns-then-has_vacant-clause-same : goal.returns-then-has_vacant-clause-same
returns-then-has_vacant-clause-same g c =
    swept_same g.V.MayBeVacant.vacant c.args.at c.args.rooms.now.entries c.remove.new.self.entries c.requires c.remove.ensures.entries (c.has_vacant.ensures.0 c.if-has_vacant.true)

pub returns-then-has_vacant-clause-order : goal.returns-then-has_vacant-clause-order
returns-then-has_vacant-clause-order g c = order-removed c.args.rooms.now.entries c.remove.new.self.entries c.args.at c.remove.ensures.entries c.requires

pub returns-then-has_vacant-clause-swept : goal.returns-then-has_vacant-clause-swept
returns-then-has_vacant-clause-swept g c = swept_room g.V.MayBeVacant.vacant c.args.at c.args.rooms.now.entries c.remove.new.self.entries c.requires c.remove.ensures.entries

pub returns-then-has_vacant-clause-vacant : goal.returns-then-has_vacant-clause-vacant
returns-then-has_vacant-clause-vacant g c = swept_vacant g.V.MayBeVacant.vacant c.args.at c.args.rooms.now.entries c.remove.new.self.entries c.requires c.remove.ensures.entries
