use Rattle.wi_engine.proofs.Words.{◌∙◌, ap, subst, List, ℕ, is_one_of, reaching, AreCones, OneQuestion}
use Rattle.wi_engine.proofs.cone.ConeSteps.{worlds_same}
use Rattle.wi_engine.proofs.remembered.RememberedMemo.key.Goals as goal

pub returns-clause-world : goal.returns-clause-world
returns-clause-world c =
    let s = c.self.inside.store.now.sheet in
    let covered = ap (λ (q : OneQuestion). is_one_of q.cells c.args.at) c.self.view_is ∙ c.requires.covered in
    let cones = subst (λ (xs : List ℕ). AreCones s xs c.add_cones.new.cones) c.deref.ensures.value c.in_ok-add_cones.ensures.cones in
    let same = worlds_same s c.self.inside.order.items c.add_cones.new.cones c.args.at cones covered c.args.world.now c.in_ok-add_cones.ensures.all in
    c.in_ok-world.ensures.list ∙ same ∙ ap (λ (q : OneQuestion). reaching q.sheet c.args.at c.args.world.now) c.self.view_is
