use Rattle.wi_graph.proofs.Words.{sym, ◌∙◌, nat_le, keys_of, or_left, is_within, areas_of, room_at, has_visited, is_passed}
use Rattle.wi_graph.proofs.SearchSteps.{was_old}
use Rattle.wi_graph.proofs.BelowSteps.{find_first, below_none, below_old, below_new, found_none, found_old, found_new, passed_one, visited_one}
use Rattle.wi_graph.proofs.below.look.Goals as goal

pub returns-in_default-clause-below : goal.returns-in_default-clause-below
returns-in_default-clause-below c = λ areas known s t.
    below_none c.args.rooms.now c.args.cell areas (is_passed c.args.below.now.visited known) c.args.below.now.ahead.items c.args.area c.args.from (sym c.next_in.ensures ∙ c.in_default.is) s

pub returns-in_default-clause-finding : goal.returns-in_default-clause-finding
returns-in_default-clause-finding c = λ known s f t.
    found_none c.args.rooms.now c.args.cell known (has_visited c.args.below.now.visited) c.args.below.now.ahead.items c.args.area c.args.from f

pub go_on-requires : goal.go_on-requires
go_on-requires c = (find_first (λ a. nat_le c.args.from a) (is_within c.args.area) (keys_of c.args.rooms.now.entries) c.in-Some.read (sym c.next_in.ensures ∙ c.in-Some.is)).0

pub returns-in_ok-below-clause-below : goal.returns-in_ok-below-clause-below
returns-in_ok-below-clause-below c = λ areas known s t.
    let old = c.args.below.now in
    below_new c.args.rooms.now c.args.cell areas (is_passed old.visited known) (is_passed c.put_new.new.self known) old.ahead.items c.go_on.new.ahead.items c.push_read.new.ahead.items c.args.area c.args.from c.in-Some.read c.requires
    (sym c.next_in.ensures ∙ c.in-Some.is) c.in_ok-go_on.ensures (c.in_ok-below.ensures t)
    (passed_one old.visited c.put_new.new.self known c.in-Some.read (visited_one old.visited c.put_new.new.self c.in-Some.read _ c.in_ok-put_new.ensures.entries)) s

pub returns-in_ok-below-clause-finding : goal.returns-in_ok-below-clause-finding
returns-in_ok-below-clause-finding c = λ known s f t.
    let old = c.args.below.now in
    found_new c.args.rooms.now c.args.cell (areas_of (room_at c.args.rooms.now c.args.cell)) known (has_visited old.visited) (has_visited c.put_new.new.self) old.ahead.items c.go_on.new.ahead.items c.args.area c.args.from c.in-Some.read s f
    (find_first (λ a. nat_le c.args.from a) (is_within c.args.area) (keys_of c.args.rooms.now.entries) c.in-Some.read (sym c.next_in.ensures ∙ c.in-Some.is)) c.in_ok-go_on.ensures
    (visited_one old.visited c.put_new.new.self c.in-Some.read _ c.in_ok-put_new.ensures.entries) c.push_read.new.ahead.items (c.in_ok-below.ensures t)

pub returns-else-branch-clause-below : goal.returns-else-branch-clause-below
returns-else-branch-clause-below c = λ areas known s t.
    let old = c.args.below.now in
    below_old c.args.rooms.now c.args.cell areas (is_passed old.visited known) (is_passed c.put_new.new.self known) old.ahead.items c.go_on.new.ahead.items c.args.area c.args.from c.in-Some.read c.requires
    (sym c.next_in.ensures ∙ c.in-Some.is) c.in_ok-go_on.ensures (or_left (has_visited old.visited c.in-Some.read) (known c.in-Some.read) (was_old c.in_ok-put_new.field-0 (has_visited old.visited c.in-Some.read) c.in_ok-put_new.ensures.new c.if-branch.false))
    (passed_one old.visited c.put_new.new.self known c.in-Some.read (visited_one old.visited c.put_new.new.self c.in-Some.read _ c.in_ok-put_new.ensures.entries)) s

pub returns-else-branch-clause-finding : goal.returns-else-branch-clause-finding
returns-else-branch-clause-finding c = λ known s f t.
    let old = c.args.below.now in
    found_old c.args.rooms.now c.args.cell (areas_of (room_at c.args.rooms.now c.args.cell)) known (has_visited old.visited) (has_visited c.put_new.new.self) old.ahead.items c.go_on.new.ahead.items c.args.area c.args.from c.in-Some.read s f
    (find_first (λ a. nat_le c.args.from a) (is_within c.args.area) (keys_of c.args.rooms.now.entries) c.in-Some.read (sym c.next_in.ensures ∙ c.in-Some.is)) c.in_ok-go_on.ensures
    (visited_one old.visited c.put_new.new.self c.in-Some.read _ c.in_ok-put_new.ensures.entries)
