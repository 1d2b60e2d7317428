use Rattle.wi_graph.proofs.StripSteps.{cells_dropped, cells_cut, cells_read}
use Rattle.wi_graph.proofs.stripping.first_read.Goals as goal

pub areas-preserved : goal.areas-preserved
areas-preserved c =
    let first = rw c.first.ensures at c.next_within.ensures.first in
    let none = rw c.in_default-next_within.is at first in
    cells_dropped c.args.rest.now c.args.areas.now.items c.areas.areas.items c.pop.new.self.items c.in-Some.area c.in-Some.ensures.items none c.areas.invariant

pub returns-in-Some-next_within-clause-kept : goal.returns-in-Some-next_within-clause-kept
returns-in-Some-next_within-clause-kept c =
    let first = rw c.first.ensures at c.next_within.ensures.first in
    let read = rw c.in-Some-next_within.is at first in
    cells_cut c.args.rest.now c.args.areas.now.items c.areas.areas.items c.pop.new.self.items c.push.new.self.items c.in-Some.area c.rows_from.result c.in-Some-next_within.read c.in-Some.ensures.items c.in_ok-push.ensures.items
    c.rows_from.ensures read c.areas.invariant

pub returns-in-Some-next_within-clause-read : goal.returns-in-Some-next_within-clause-read
returns-in-Some-next_within-clause-read c =
    let first = rw c.first.ensures at c.next_within.ensures.found in
    let read = rw c.in-Some-next_within.is at first in
    cells_read c.args.rest.now c.args.areas.now.items c.areas.areas.items c.pop.new.self.items c.in-Some.area c.in-Some-next_within.read c.in-Some.ensures.items read c.areas.invariant
