use Rattle.wi_graph.proofs.Words.{List, subst, take, take_all, arith, Area}
use Rattle.wi_graph.specs.Inner.Apart.{HaveNone}
use Rattle.wi_graph.proofs.ApartSteps.{none_of_all}
use Rattle.wi_graph.proofs.apart.have_none.Goals as goal

pub returns : goal.returns
returns g c = λ t.
    let p = g.W.Watch.watched c.args.watch.now in
    subst (λ (rs : List Area). HaveNone p rs) (take_all c.loop-area.area-index c.args.areas.now (omega (arith, c.loop-area-test.false)))
    (none_of_all p (take c.loop-area.area-index c.args.areas.now) c.loop-area.invariant)
