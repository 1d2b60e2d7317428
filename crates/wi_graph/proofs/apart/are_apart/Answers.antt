use Rattle.wi_graph.proofs.Words.{List, sym, subst, take, take_all, arith}
use Rattle.std.proofs.Common.{All}
use Rattle.std.proofs.lemmas.List.Elements.{All-more}
use Rattle.wi_graph.specs.Inner.Apart.{IsApart}
use Rattle.wi_graph.proofs.apart.are_apart.Goals as goal

pub loop-entry-preserved : goal.loop-entry-preserved
loop-entry-preserved g c =
    let apart = IsApart (g.W.Watch.watched c.args.watch.now) c.args.rooms.now in
    let x = c.entry-item.result in
    All-more apart c.args.next.now c.loop-entry.entry-index x c.loop-entry-test.true c.loop-entry.invariant
    (subst apart c.entry-item.is (c.is_entry_apart.ensures c.if-not-is_entry_apart.false))

pub returns : goal.returns
returns g c = λ t.
    let apart = IsApart (g.W.Watch.watched c.args.watch.now) c.args.rooms.now in
    subst (All apart) (take_all c.loop-entry.entry-index c.args.next.now (omega (arith, c.loop-entry-test.false))) c.loop-entry.invariant
