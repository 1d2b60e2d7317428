use Rattle.wi_propagate.proofs.Words.{◌∙◌, ℕ, List, ap, is_one_of}
use Rattle.wi_propagate.proofs.ReplacedCones.{cones_tried, known_still}
use Rattle.wi_propagate.proofs.cones.add_cone.Goals as goal

pub returns-clause-cones : goal.returns-clause-cones
returns-clause-cones c = λ s edges h.
    cones_tried s c.args.at c.deref.result.now c.args.cones.now c.add.new.self h
    (λ q. ap (λ (xs : List ℕ). is_one_of xs q) c.deref.ensures.value ∙ c.in_ok-cone.ensures.cells s edges q)
    c.add.result c.add.ensures.adds c.add.ensures.known c.add.ensures.all c.add.ensures.err

pub returns-clause-stay : goal.returns-clause-stay
returns-clause-stay c = known_still c.args.at c.args.cones.now c.add.new.self c.add.result c.add.ensures.known
