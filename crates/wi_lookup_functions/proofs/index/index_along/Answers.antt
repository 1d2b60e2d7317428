use Rattle.wi_lookup_functions.proofs.Words.{sym, ◌∙◌, ℤ, ap, rules, Ok, Err, to_z-of_z, w128, arguments_in, IsMissing, region_of, value_at, to_whole, index_along, nth_cell_along, Error, is_referred, region_is, Finds}
use Rattle.wi_lookup_functions.proofs.Chains.{along, along_area, along_number}
use Rattle.wi_lookup_functions.proofs.NoValues.{ended, ends_so}
use Rattle.wi_lookup_functions.proofs.index.index_along.Goals as goal

pub returns-in_err-k : goal.returns-in_err-k
returns-in_err-k g c =
    let known = g.L.Lookup.known_cell c.args.lookup.now in
    let args = c.args.arguments.now in
    let r = c.in_ok-area.area in
    ends_so (Finds known args index_along) c.from_residual-in_err-k.result c.in_err-k.field-0.0 c.from_residual-in_err-k.ensures.1
    (ended {A = ℤ} {B = ℤ} known args index_along (IsMissing known args) (λ k. k) (λ cells. to_whole (value_at (arguments_in cells args) 1)) c.in_err-k.field-0.0 (λ a m. m)
    (λ cells a e q. along_number (arguments_in cells args) (region_of cells r) e (region_is args 0 (Ok r) c.in_ok-area.ensures cells) q) c.in_err-k.ensures)

pub returns-in_err-nth_cell_along : goal.returns-in_err-nth_cell_along
returns-in_err-nth_cell_along g c =
    let same = to_z-of_z w128 c.in_ok-k.k (search rules) in
    let known = g.L.Lookup.known_cell c.args.lookup.now in
    let args = c.args.arguments.now in
    let r = c.in_ok-area.area in
    ends_so (Finds known args index_along) c.from_residual-in_err-nth_cell_along.result (Error c.in_err-nth_cell_along.field-0.0) c.from_residual-in_err-nth_cell_along.ensures.1
    (λ cells a. along (arguments_in cells args) (region_of cells r) c.in_ok-k.k (region_is args 0 (Ok r) c.in_ok-area.ensures cells) (c.in_ok-k.ensures cells a) ∙ ap (nth_cell_along (region_of cells r)) (sym same) ∙ c.in_err-nth_cell_along.ensures cells)

pub returns : goal.returns
returns g c =
    let same = to_z-of_z w128 c.in_ok-k.k (search rules) in
    let args = c.args.arguments.now in
    let r = c.in_ok-area.area in (
      λ cells a. along (arguments_in cells args) (region_of cells r) c.in_ok-k.k (region_is args 0 (Ok r) c.in_ok-area.ensures cells) (c.in_ok-k.ensures cells a) ∙ ap (nth_cell_along (region_of cells r)) (sym same) ∙ c.in_ok-nth_cell_along.ensures.0 cells,
      is_referred args 0 r c.in_ok-area.ensures _ c.in_ok-nth_cell_along.ensures.1,
    )

pub returns-in_err-area : goal.returns-in_err-area
returns-in_err-area g c =
    let args = c.args.arguments.now in
    let e = c.in_err-area.field-0.0 in
    ends_so (Finds (g.L.Lookup.known_cell c.args.lookup.now) args index_along) c.from_residual.result (Error e) c.from_residual.ensures.1
    (λ cells a. along_area (arguments_in cells args) e (region_is args 0 (Err e) c.in_err-area.ensures cells))
