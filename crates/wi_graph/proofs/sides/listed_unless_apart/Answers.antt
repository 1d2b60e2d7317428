use Rattle.wi_graph.proofs.Words.{ℕ, Option, SmallVec, Area, nat_cmp, contains, subst, sym, rules, items_of, areas_of, room_at, ReachesNot}
use Rattle.wi_graph.proofs.SearchSteps.{found_list}
use Rattle.wi_graph.proofs.ClosingSteps.{first_open, now_apart, reads_apart}
use Rattle.wi_graph.proofs.sides.listed_unless_apart.Goals as goal

pub both_sides-requires-clause-open_now : goal.both_sides-requires-clause-open_now
both_sides-requires-clause-open_now c =
    let entry = c.index-edit-0.result in
    let unmet = first_open c.args.edit.now.next.now c.args.edit.now.cyclic.now entry (c.is_for_open_cell.ensures.one (search rules)) c.index-edit-0.is (c.is_for_open_cell.ensures.unmet (search rules)) in
    subst (λ (x : ℕ × Option (SmallVec Area)). ReachesNot c.args.edit.now.rooms.now x.0 (areas_of (room_at c.args.edit.now.rooms.now x.0))) c.index-edit-0.is
    (now_apart c.args.edit.now.rooms.now (contains nat_cmp c.args.edit.now.cyclic.now) entry.0 c.requires.circular unmet)

pub returns-in_ok-cone-in-Some-clause-cone : goal.returns-in_ok-cone-in-Some-clause-cone
returns-in_ok-cone-in-Some-clause-cone c =
    let k = rw c.in-Some.is at c.in_ok-found.ensures.cone in
    found_list c.args.edit.now.readers.now c.args.cells.now c.in_ok-cone-in-Some.cone.items c.in-Some.found c.in_ok-cone-in-Some.ensures.order c.in_ok-cone-in-Some.ensures.cells k.0 k.1 k.2

pub returns-in-None-clause-apart : goal.returns-in-None-clause-apart
returns-in-None-clause-apart c =
    let entry = c.index-edit-0.result in
    let reaches = subst (λ (x : ℕ × Option (SmallVec Area)). ReachesNot c.args.edit.now.rooms.now x.0 (areas_of (items_of x.1))) (sym c.index-edit-0.is) (rw c.in-None.is at c.in_ok-found.ensures.apart) in
    reads_apart c.args.edit.now.rooms.now c.args.edit.now.next.now c.args.edit.now.cyclic.now entry (c.is_for_open_cell.ensures.one (search rules)) c.index-edit-0.is (c.is_for_open_cell.ensures.unmet (search rules)) reaches
