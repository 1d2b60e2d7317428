use Rattle.wi_graph.proofs.Words.{sym, subst, IsListBeyond}
use Rattle.wi_graph.proofs.BeyondSteps.{own_beyond, none_watched, beyond_all, beyond_list}
use Rattle.wi_graph.proofs.beyond.listed_beyond.Goals as goal

pub returns-then-are_alone : goal.returns-then-are_alone
returns-then-are_alone g c =
    own_beyond c.args.readers.now (g.W.Watch.watched c.args.watch.now) c.args.cells.now c.in_ok-own.own.items c.deref.result.now c.in_ok-own.ensures c.deref.ensures (c.are_alone.ensures.order c.if-are_alone.true) (c.are_alone.ensures.unread c.if-are_alone.true)

pub cone_beyond-requires : goal.cone_beyond-requires
cone_beyond-requires g c = none_watched (g.W.Watch.watched c.args.watch.now) c.args.cells.now c.in_ok-own.own.items c.deref-2.result.now c.in_ok-own.ensures c.deref-2.ensures

pub returns : goal.returns
returns g c =
    let w = g.W.Watch.watched c.args.watch.now in
    let cells = c.args.cells.now in
    let cone = beyond_all c.args.readers.now w cells c.in_ok-own.own.items c.deref-2.result.now c.in_ok-found.found c.in_ok-own.ensures c.deref-2.ensures c.in_ok-found.ensures in
    subst (IsListBeyond c.args.readers.now w cells) (sym c.from_vec.ensures.items)
    (beyond_list c.args.readers.now w cells c.in_ok-list.list.items c.in_ok-found.found c.in_ok-list.ensures.order c.in_ok-list.ensures.cells cone)
