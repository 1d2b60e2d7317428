use Rattle.wi_lookup_functions.proofs.Words.{◌≡◌, ◌==◌, false, arith, ℤ, rules, subst, to_z-of_z, w128, nat_tests, nth_cell, nth_cell_along, IsPlacedIn, height, width}
use Rattle.std.proofs.Common.{pos}
use Rattle.wi_lookup_functions.proofs.NoValues.{in_one_column, in_one_row, placed_same}
use Rattle.wi_lookup_functions.proofs.index.nth_cell_along.Goals as goal

pub returns-then-width-eq1 : goal.returns-then-width-eq1
returns-then-width-eq1 c =
    let same = to_z-of_z w128 c.args.k (search rules) in
    let r = c.args.area in
    let one : width r ≡ 1 = omega arith in
    placed_same r (λ q. nth_cell q c.args.k (pos 1)) (λ q. nth_cell_along q c.args.k) c.nth_cell.result (λ cells. in_one_column cells r c.args.k one) (subst (λ (z : ℤ). IsPlacedIn r (λ q. nth_cell q z (pos 1)) c.nth_cell.result) same c.nth_cell.ensures)

pub returns-then-height-eq1 : goal.returns-then-height-eq1
returns-then-height-eq1 c =
    let same = to_z-of_z w128 c.args.k (search rules) in
    let r = c.args.area in
    let more : (width r == 1) ≡ false = grind (arith, nat_tests) in
    let one : height r ≡ 1 = omega arith in
    placed_same r (λ q. nth_cell q (pos 1) c.args.k) (λ q. nth_cell_along q c.args.k) c.nth_cell-then-height-eq1.result (λ cells. in_one_row cells r c.args.k more one) (subst (λ (z : ℤ). IsPlacedIn r (λ q. nth_cell q (pos 1) z) c.nth_cell-then-height-eq1.result) same c.nth_cell-then-height-eq1.ensures)
