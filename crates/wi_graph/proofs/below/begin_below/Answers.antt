use Rattle.wi_graph.proofs.Words.{ℕ, List, [], subst, Area, items_of, areas_of, room_at, AreFound, HasAreas, has_visited}
use Rattle.wi_graph.proofs.BelowSteps.{below_start}
use Rattle.wi_graph.proofs.below.begin_below.Goals as goal

pub returns : goal.returns
returns c = λ known s t.
    let found : AreFound c.args.rooms.now c.args.cell known (has_visited c.in_ok-visited.visited) [] = c.in_ok-visited.ensures known s in
    below_start c.args.rooms.now c.args.cell (areas_of (room_at c.args.rooms.now c.args.cell)) (areas_of (items_of c.args.room.now)) known c.in_ok-visited.visited c.push_room.new.ahead.items s found
    (subst (λ (xs : List (Area × ℕ)). HasAreas c.args.cell (areas_of (items_of c.args.room.now)) xs c.push_room.new.ahead.items) c.new-ahead.ensures.items (c.in_ok-clear.ensures t))
