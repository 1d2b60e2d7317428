use Rattle.wi_graph.proofs.Words.{◌∙◌, ap, sym, arith, fewer_places}
use Rattle.wi_graph.proofs.ApartSteps.{looked_at_none, one_more_looked_at}
use Rattle.wi_graph.proofs.apart.has_none.Goals as goal

pub loop-ahead-init : goal.loop-ahead-init
loop-ahead-init g c =
    looked_at_none (g.W.Watch.watched c.args.watch.now) c.args.area c.first.result c.height.result c.width.result c.first.ensures c.height.ensures.value c.height.ensures.some c.width.ensures.value c.width.ensures.some

pub cell_after-ahead-requires : goal.cell_after-ahead-requires
cell_after-ahead-requires g c = (rw c.in-Some.is at c.loop-ahead.invariant).within

pub loop-ahead-smaller : goal.loop-ahead-smaller
loop-ahead-smaller g c =
    rw c.in-Some.is (fewer_places c.args.area c.in-Some.at c.in-Some.at c.cell_after-ahead.result (omega arith) (rw c.in-Some.is at c.loop-ahead.invariant).within c.cell_after-ahead.ensures.after)

pub loop-ahead-preserved : goal.loop-ahead-preserved
loop-ahead-preserved g c =
    one_more_looked_at (g.W.Watch.watched c.args.watch.now) c.args.area c.in-Some.at c.cell_after-ahead.result (rw c.in-Some.is at c.loop-ahead.invariant) (sym c.has.ensures ∙ c.if-has.false) c.cell_after-ahead.ensures.after c.cell_after-ahead.ensures.first

pub returns : goal.returns
returns g c = λ t d i. (rw c.in_default.is at c.loop-ahead.invariant).none d i tt
