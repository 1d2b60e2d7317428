use Rattle.wi_lookup_functions.proofs.Words.{arith, ◌≡◌, ℕ, ◌<◌, ◌||◌, true, false, Ok, sym, ap, ◌∙◌, subst, ℤ, FitsSigned, rules, pos, int_lt, or_from, to_z-of_z, w128, common_steps, is_within, position_among, height, width}
use Rattle.wi_lookup_functions.proofs.NoValues.{nth_is, nth_no_row, nth_within}
use Rattle.wi_lookup_functions.proofs.index.nth_cell.Goals as goal

pub returns : goal.returns
returns c =
    let same_j = to_z-of_z w128 c.args.j (search rules) in
    let same_k = to_z-of_z w128 c.args.k (search rules) in
    let r = c.args.area in
    let row_is : Ok c.in_ok-row.row ≡ position_among (height r) c.args.j = c.in_ok-row.ensures.place ∙ ap (λ (z : ℤ). position_among c.height.result z) same_j ∙ ap (λ (n : ℕ). position_among n c.args.j) c.height.ensures.value in
    let column_is : Ok c.in_ok-column.column ≡ position_among (width r) c.args.k = c.in_ok-column.ensures.place ∙ ap (λ (z : ℤ). position_among c.width.result z) same_k ∙ ap (λ (n : ℕ). position_among n c.args.k) c.width.ensures.value in
    let row_within : c.in_ok-row.row < height r = subst (λ (n : ℕ). c.in_ok-row.row < n) c.height.ensures.value c.in_ok-row.ensures.within in
    let column_within : c.in_ok-column.column < width r = subst (λ (n : ℕ). c.in_ok-column.column < n) c.width.ensures.value c.in_ok-column.ensures.within in (
      λ cells. nth_is cells r c.args.j c.args.k c.in_ok-row.row c.in_ok-column.column row_is column_is row_within column_within ∙ ap cells (sym c.cell_at.ensures),
      subst (λ (a : ℕ). is_within r a ≡ true) (sym c.cell_at.ensures) (nth_within r c.in_ok-row.row c.in_ok-column.column row_within column_within),
    )

pub returns-in_err-row : goal.returns-in_err-row
returns-in_err-row c =
    let fits : FitsSigned w128 c.args.j = search rules in
    let same = to_z-of_z w128 c.args.j fits in
    let above : (int_lt c.args.j (pos 1) || int_lt c.args.k (pos 1)) ≡ false = or_from (int_lt c.args.j (pos 1)) (int_lt c.args.k (pos 1)) (search rules) (search rules) in
    nth_no_row c.args.area c.args.j c.args.k c.from_residual.result c.in_err-row.field-0.0 c.from_residual.ensures.1 above
    (c.in_err-row.ensures.place ∙ ap (λ (z : ℤ). position_among c.height.result z) same ∙ ap (λ (n : ℕ). position_among n c.args.j) c.height.ensures.value)

pub returns-in_err-column : goal.returns-in_err-column
returns-in_err-column c = grind (arith, common_steps)
