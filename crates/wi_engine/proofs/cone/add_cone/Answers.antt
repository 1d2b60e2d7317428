use Rattle.wi_engine.proofs.cone.ConeSteps.{cones_more, cones_stay}
use Rattle.wi_engine.proofs.cone.add_cone.Goals as goal

pub returns-clause-cones : goal.returns-clause-cones
returns-clause-cones c =
    λ a d m. cones_more c.args.store.now.sheet c.args.order.now c.args.at c.in_ok-cone.cone c.args.cones.now c.insert.new.self c.requires.cones c.in_ok-cone.ensures c.in_ok-insert.ensures.updates.0 a d m

pub returns-clause-stay : goal.returns-clause-stay
returns-clause-stay c = cones_stay c.args.at c.in_ok-cone.cone c.args.cones.now c.insert.new.self c.in_ok-insert.ensures.updates.0
