use Rattle.wi_graph.proofs.Words.{rules, has_visited}
use Rattle.wi_graph.proofs.BelowSteps.{all_found, none_found, none_visited}
use Rattle.wi_graph.proofs.below.few_read_now.Goals as goal

pub returns-then-below : goal.returns-then-below
returns-then-below c = λ known s.
    let on = c.go_below.new.below in
    all_found c.args.rooms.now c.args.cell known (has_visited on.visited) on.ahead.items (c.in_ok-go_below.ensures.finding known s (c.in_ok-below.ensures known s) (search rules))

pub returns : goal.returns
returns c = λ known s. none_found c.args.rooms.now c.args.cell known (has_visited c.new.result) (none_visited c.new.result c.new.ensures)
