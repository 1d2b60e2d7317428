use Rattle.wi_functions.proofs.Words.{◌≡◌, true, rules, cell, rectangle, is_one_cell, of_tree}
use Rattle.wi_functions.proofs.Asking.{corner_asks, evaluates_too}
use Rattle.wi_functions.proofs.Parameters.{value_of_corner}
use Rattle.wi_functions.proofs.evaluation.rectangle_value.Goals as goal

pub returns-then-eq : goal.returns-then-eq
returns-then-eq g c =
    let one : is_one_cell c.args.corners ≡ true = search rules in
    evaluates_too g.L.Lookup.known_cell g.L.Lookup.known_what_if c.args.lookup.now (of_tree (cell c.args.corners.one)) (of_tree (rectangle c.args.corners)) c.cell_value.result
    (λ a agrees. value_of_corner c.args.corners a.cells one) (corner_asks c.args.corners) c.cell_value.ensures
