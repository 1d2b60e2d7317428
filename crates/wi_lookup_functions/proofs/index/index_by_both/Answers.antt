use Rattle.wi_lookup_functions.proofs.Words.{sym, ◌∙◌, ℤ, ◌≡◌, ap, rules, Ok, Err, to_z-of_z, w128, arguments_in, IsMissing, region_of, value_at, to_whole, index_by_both, nth_cell, Value, Error, is_referred, region_is, Finds}
use Rattle.wi_lookup_functions.proofs.Chains.{both, both_area, both_column, both_row}
use Rattle.wi_lookup_functions.proofs.NoValues.{ended, ends_so}
use Rattle.wi_lookup_functions.proofs.index.index_by_both.Goals as goal

turned : (f : ℤ → ℤ → Value) (j i k l : ℤ) → i ≡ j → l ≡ k → f j k ≡ f i l
turned f j i k l e h = ap (λ (z : ℤ). f z k) (sym e) ∙ ap (λ (z : ℤ). f i z) (sym h)

pub returns-in_err-j : goal.returns-in_err-j
returns-in_err-j g c =
    let known = g.L.Lookup.known_cell c.args.lookup.now in
    let args = c.args.arguments.now in
    let r = c.in_ok-area.area in
    ends_so (Finds known args index_by_both) c.from_residual-in_err-j.result c.in_err-j.field-0.0 c.from_residual-in_err-j.ensures.1
    (ended {A = ℤ} {B = ℤ} known args index_by_both (IsMissing known args) (λ k. k) (λ cells. to_whole (value_at (arguments_in cells args) 1)) c.in_err-j.field-0.0 (λ a m. m)
    (λ cells a e q. both_row (arguments_in cells args) (region_of cells r) e (region_is args 0 (Ok r) c.in_ok-area.ensures cells) q) c.in_err-j.ensures)

pub returns-in_err-k : goal.returns-in_err-k
returns-in_err-k g c =
    let known = g.L.Lookup.known_cell c.args.lookup.now in
    let args = c.args.arguments.now in
    let r = c.in_ok-area.area in
    ends_so (Finds known args index_by_both) c.from_residual-in_err-k.result c.in_err-k.field-0.0 c.from_residual-in_err-k.ensures.1
    (ended {A = ℤ} {B = ℤ} known args index_by_both (IsMissing known args) (λ k. k) (λ cells. to_whole (value_at (arguments_in cells args) 2)) c.in_err-k.field-0.0 (λ a m. m)
    (λ cells a e q. both_column (arguments_in cells args) (region_of cells r) c.in_ok-j.j e (region_is args 0 (Ok r) c.in_ok-area.ensures cells) (c.in_ok-j.ensures cells a) q) c.in_err-k.ensures)

pub returns-in_err-nth_cell : goal.returns-in_err-nth_cell
returns-in_err-nth_cell g c =
    let same_j = to_z-of_z w128 c.in_ok-j.j (search rules) in
    let same_k = to_z-of_z w128 c.in_ok-k.k (search rules) in
    let known = g.L.Lookup.known_cell c.args.lookup.now in
    let args = c.args.arguments.now in
    let r = c.in_ok-area.area in
    ends_so (Finds known args index_by_both) c.from_residual-in_err-nth_cell.result (Error c.in_err-nth_cell.field-0.0) c.from_residual-in_err-nth_cell.ensures.1
    (λ cells a. both (arguments_in cells args) (region_of cells r) c.in_ok-j.j c.in_ok-k.k (region_is args 0 (Ok r) c.in_ok-area.ensures cells) (c.in_ok-j.ensures cells a) (c.in_ok-k.ensures cells a) ∙ turned (nth_cell (region_of cells r)) c.in_ok-j.j _ c.in_ok-k.k _ same_j same_k ∙ c.in_err-nth_cell.ensures cells)

pub returns : goal.returns
returns g c =
    let same_j = to_z-of_z w128 c.in_ok-j.j (search rules) in
    let same_k = to_z-of_z w128 c.in_ok-k.k (search rules) in
    let args = c.args.arguments.now in
    let r = c.in_ok-area.area in (
      λ cells a. both (arguments_in cells args) (region_of cells r) c.in_ok-j.j c.in_ok-k.k (region_is args 0 (Ok r) c.in_ok-area.ensures cells) (c.in_ok-j.ensures cells a) (c.in_ok-k.ensures cells a) ∙ turned (nth_cell (region_of cells r)) c.in_ok-j.j _ c.in_ok-k.k _ same_j same_k ∙ c.in_ok-nth_cell.ensures.0 cells,
      is_referred args 0 r c.in_ok-area.ensures _ c.in_ok-nth_cell.ensures.1,
    )

pub returns-in_err-area : goal.returns-in_err-area
returns-in_err-area g c =
    let args = c.args.arguments.now in
    let e = c.in_err-area.field-0.0 in
    ends_so (Finds (g.L.Lookup.known_cell c.args.lookup.now) args index_by_both) c.from_residual.result (Error e) c.from_residual.ensures.1
    (λ cells a. both_area (arguments_in cells args) e (region_is args 0 (Err e) c.in_err-area.ensures cells))
