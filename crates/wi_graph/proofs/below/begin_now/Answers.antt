use Rattle.wi_graph.proofs.Words.{ℕ, List, subst, Area, areas_of, room_at, HasAreas, has_visited}
use Rattle.wi_graph.proofs.BelowSteps.{found_start, none_visited}
use Rattle.wi_graph.proofs.below.begin_now.Goals as goal

pub returns : goal.returns
returns c = λ known s t.
    let areas = areas_of (room_at c.args.rooms.now c.args.cell) in
    found_start c.args.rooms.now c.args.cell areas known (has_visited c.new-visited.result) c.push_read.new.ahead.items (none_visited c.new-visited.result c.new-visited.ensures)
    (subst (λ (xs : List (Area × ℕ)). HasAreas c.args.cell areas xs c.push_read.new.ahead.items) c.new-ahead.ensures.items (c.in_ok-clear.ensures t)) s
