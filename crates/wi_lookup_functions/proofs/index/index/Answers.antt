use Rattle.wi_lookup_functions.proofs.Words.{◌<◌, ◌≤◌, length, arith, index_along, index_by_both, index_value}
use Rattle.wi_lookup_functions.proofs.NoValues.{finds_same, with_three, with_two}
use Rattle.wi_lookup_functions.proofs.index.index.Goals as goal

pub returns-then-arguments-le2 : goal.returns-then-arguments-le2
returns-then-arguments-le2 g c =
    let args = c.args.arguments.now in
    let few : length args ≤ 2 = omega arith in
    finds_same (g.L.Lookup.known_cell c.args.lookup.now) args index_along index_value c.index_along.result (λ cells. with_two cells args few) c.index_along.ensures

pub returns-else-arguments-le2 : goal.returns-else-arguments-le2
returns-else-arguments-le2 g c =
    let args = c.args.arguments.now in
    let more : 2 < length args = omega arith in
    finds_same (g.L.Lookup.known_cell c.args.lookup.now) args index_by_both index_value c.index_by_both.result (λ cells. with_three cells args more) c.index_by_both.ensures
