use Rattle.wi_lookup_functions.proofs.Words.{Bor, Value, ◌≡◌, ◌<◌, true, Ok, Err, map, sym, ap, ◌∙◌, subst, arith, rules, ℕ, ℤ, Bool, to_z-of_z, w128, ok_or, arguments_in, IsMissing, region_of, value_at, to_whole, position_among, cells_of, is_within, NotAvailable, Error, line_count, line_width, look_up_by, IsMissingIn, position_by, is_referred, region_is, Finds}
use Rattle.wi_lookup_functions.proofs.Axes.{along_is, along_within, asked, placed_along}
use Rattle.wi_lookup_functions.proofs.Chains.{first_cells_in, no_area, no_number, no_order, no_place, no_sought, not_seen, order_in, seen, seen_along, sought_in}
use Rattle.wi_lookup_functions.proofs.NoValues.{ended, ends_so}
use Rattle.wi_lookup_functions.proofs.FirstLines.{IsFirstLine, first_line}
use Rattle.wi_lookup_functions.proofs.tables.look_up.Goals as goal

pub returns-in_err-sought : goal.returns-in_err-sought
returns-in_err-sought g c =
    let known = g.L.Lookup.known_cell c.args.lookup.now in
    let args = c.args.arguments.now in
    ends_so (Finds known args (look_up_by c.args.axis)) c.from_residual.result c.in_err-sought.field-0.0 c.from_residual.ensures.1
    (ended {A = Bor Value} {B = Value} known args (look_up_by c.args.axis) (IsMissing known args) (λ v. v.now) (λ cells. sought_in (arguments_in cells args)) c.in_err-sought.field-0.0 (λ a m. m)
    (λ cells a e q. no_sought c.args.axis (arguments_in cells args) e q) c.in_err-sought.ensures)

pub returns-in_err-area : goal.returns-in_err-area
returns-in_err-area g c =
    let known = g.L.Lookup.known_cell c.args.lookup.now in
    let args = c.args.arguments.now in
    ends_so (Finds known args (look_up_by c.args.axis)) c.from_residual-in_err-area.result (Error c.in_err-area.field-0.0) c.from_residual-in_err-area.ensures.1
    (λ cells a. no_area c.args.axis (arguments_in cells args) c.in_ok-sought.sought.now c.in_err-area.field-0.0 (c.in_ok-sought.ensures cells a) (region_is args 1 (Err c.in_err-area.field-0.0) c.in_err-area.ensures cells))

pub returns-in_err-k : goal.returns-in_err-k
returns-in_err-k g c =
    let known = g.L.Lookup.known_cell c.args.lookup.now in
    let args = c.args.arguments.now in
    let r = c.in_ok-area.area in
    ends_so (Finds known args (look_up_by c.args.axis)) c.from_residual-in_err-k.result c.in_err-k.field-0.0 c.from_residual-in_err-k.ensures.1
    (ended {A = ℤ} {B = ℤ} known args (look_up_by c.args.axis) (IsMissing known args) (λ k. k) (λ cells. to_whole (value_at (arguments_in cells args) 2)) c.in_err-k.field-0.0 (λ a m. m)
    (λ cells a e q. no_number c.args.axis (arguments_in cells args) c.in_ok-sought.sought.now (region_of cells r) e (c.in_ok-sought.ensures cells a) (region_is args 1 (Ok r) c.in_ok-area.ensures cells) q) c.in_err-k.ensures)

pub returns-in_err-in_order : goal.returns-in_err-in_order
returns-in_err-in_order g c =
    let known = g.L.Lookup.known_cell c.args.lookup.now in
    let args = c.args.arguments.now in
    let r = c.in_ok-area.area in
    ends_so (Finds known args (look_up_by c.args.axis)) c.from_residual-in_err-in_order.result c.in_err-in_order.field-0.0 c.from_residual-in_err-in_order.ensures.1
    (ended {A = Bool} {B = Bool} known args (look_up_by c.args.axis) (IsMissing known args) (λ b. b) (λ cells. order_in (arguments_in cells args)) c.in_err-in_order.field-0.0 (λ a m. m)
    (λ cells a e q. no_order c.args.axis (arguments_in cells args) c.in_ok-sought.sought.now (region_of cells r) c.in_ok-k.k e (c.in_ok-sought.ensures cells a) (region_is args 1 (Ok r) c.in_ok-area.ensures cells) (c.in_ok-k.ensures cells a) q) c.in_err-in_order.ensures)

pub returns-in_err-place : goal.returns-in_err-place
returns-in_err-place g c =
    let same = to_z-of_z w128 c.in_ok-k.k (search rules) in
    let known = g.L.Lookup.known_cell c.args.lookup.now in
    let args = c.args.arguments.now in
    let r = c.in_ok-area.area in
    let s = c.in_ok-sought.sought.now in
    let e = c.in_err-place.field-0.0 in
    ends_so (Finds known args (look_up_by c.args.axis)) c.from_residual-in_err-place.result (Error e) c.from_residual-in_err-place.ensures.1
    (λ cells a.
    no_place c.args.axis (arguments_in cells args) s (region_of cells r) c.in_ok-k.k c.in_ok-in_order.in_order e
    (asked cells args s r c.in_ok-k.k c.in_ok-in_order.in_order (c.in_ok-sought.ensures cells a) c.in_ok-area.ensures (c.in_ok-k.ensures cells a) (c.in_ok-in_order.ensures cells a))
    (placed_along c.args.axis cells r c.in_ok-k.k c.width.result (Err e) c.width.ensures (c.in_err-place.ensures.place ∙ ap (position_among c.width.result) same)))

pub place_along-requires : goal.place_along-requires
place_along-requires g c =
    let axis = c.args.axis in
    let r = c.in_ok-area.area in
    let some : 0 < line_width axis r = omega (arith, c.in_ok-place.ensures.within, c.width.ensures) in
    let line = first_line axis r c.first_cells-firsts.result c.first_cells-firsts.ensures.cells c.first_cells-firsts.ensures.some some in
    line.line

pub returns-in_err-line : goal.returns-in_err-line
returns-in_err-line g c =
    let same = to_z-of_z w128 c.in_ok-k.k (search rules) in
    let known = g.L.Lookup.known_cell c.args.lookup.now in
    let args = c.args.arguments.now in
    let axis = c.args.axis in
    let r = c.in_ok-area.area in
    let s = c.in_ok-sought.sought.now in
    let l = c.first_cells-firsts.result in
    let some : 0 < line_width axis r = omega (arith, c.in_ok-place.ensures.within, c.width.ensures) in
    let line : IsFirstLine r l (λ cells. first_cells_in axis (region_of cells r)) (line_count axis r) = first_line axis r l c.first_cells-firsts.ensures.cells c.first_cells-firsts.ensures.some some in
    ends_so (Finds known args (look_up_by axis)) c.from_residual-in_err-line.result c.in_err-line.field-0.0 c.from_residual-in_err-line.ensures.1
    (ended {A = ℕ} {B = ℕ} known args (look_up_by axis) (IsMissingIn known l) (λ i. i) (λ cells. ok_or (position_by c.in_order.result s (map cells (cells_of l))) NotAvailable) c.in_err-line.field-0.0
    (λ b m. (m.0, is_referred args 1 r c.in_ok-area.ensures b (line.inside b m.1)))
    (λ cells a e q.
    not_seen axis (arguments_in cells args) s (region_of cells r) c.in_ok-k.k c.in_ok-in_order.in_order c.in_ok-place.place e
    (asked cells args s r c.in_ok-k.k c.in_ok-in_order.in_order (c.in_ok-sought.ensures cells a) c.in_ok-area.ensures (c.in_ok-k.ensures cells a) (c.in_ok-in_order.ensures cells a))
    (placed_along axis cells r c.in_ok-k.k c.width.result (Ok c.in_ok-place.place) c.width.ensures (c.in_ok-place.ensures.place ∙ ap (position_among c.width.result) same))
    (seen_along c.in_order.result c.in_ok-in_order.in_order s (first_cells_in axis (region_of cells r)) (map cells (cells_of l)) (line.values_are cells) c.in_order.ensures ∙ q))
    c.in_err-line.ensures.place)

pub cell_at-requires-clause-line_within : goal.cell_at-requires-clause-line_within
cell_at-requires-clause-line_within g c =
    let axis = c.args.axis in
    let r = c.in_ok-area.area in
    let some : 0 < line_width axis r = omega (arith, c.in_ok-place.ensures.within, c.width.ensures) in
    let line = first_line axis r c.first_cells-firsts.result c.first_cells-firsts.ensures.cells c.first_cells-firsts.ensures.some some in
    subst (λ (n : ℕ). c.in_ok-line.line < n) line.count_is c.in_ok-line.ensures.within

pub returns : goal.returns
returns g c =
    let same = to_z-of_z w128 c.in_ok-k.k (search rules) in
    let args = c.args.arguments.now in
    let axis = c.args.axis in
    let r = c.in_ok-area.area in
    let s = c.in_ok-sought.sought.now in
    let l = c.first_cells-firsts.result in
    let some : 0 < line_width axis r = omega (arith, c.in_ok-place.ensures.within, c.width.ensures) in
    let line : IsFirstLine r l (λ cells. first_cells_in axis (region_of cells r)) (line_count axis r) = first_line axis r l c.first_cells-firsts.ensures.cells c.first_cells-firsts.ensures.some some in
    let line_within : c.in_ok-line.line < line_count axis r = subst (λ (n : ℕ). c.in_ok-line.line < n) line.count_is c.in_ok-line.ensures.within in
    let place_within : c.in_ok-place.place < line_width axis r = subst (λ (n : ℕ). c.in_ok-place.place < n) c.width.ensures c.in_ok-place.ensures.within in (
      λ cells a.
          seen axis (arguments_in cells args) s (region_of cells r) c.in_ok-k.k c.in_ok-in_order.in_order c.in_ok-place.place c.in_ok-line.line
          (asked cells args s r c.in_ok-k.k c.in_ok-in_order.in_order (c.in_ok-sought.ensures cells a) c.in_ok-area.ensures (c.in_ok-k.ensures cells a) (c.in_ok-in_order.ensures cells a))
          (placed_along axis cells r c.in_ok-k.k c.width.result (Ok c.in_ok-place.place) c.width.ensures (c.in_ok-place.ensures.place ∙ ap (position_among c.width.result) same))
          (seen_along c.in_order.result c.in_ok-in_order.in_order s (first_cells_in axis (region_of cells r)) (map cells (cells_of l)) (line.values_are cells) c.in_order.ensures ∙ c.in_ok-line.ensures.place cells a)
          ∙ along_is axis cells r c.in_ok-line.line c.in_ok-place.place line_within place_within ∙ ap cells (sym c.cell_at.ensures),
      is_referred args 1 r c.in_ok-area.ensures c.cell_at.result (subst (λ (b : ℕ). is_within r b ≡ true) (sym c.cell_at.ensures) (along_within axis r c.in_ok-line.line c.in_ok-place.place line_within place_within)),
    )
