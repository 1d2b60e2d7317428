use Rattle.wi_lookup_functions.proofs.Words.{Bor, Value, ◌≡◌, true, false, Ok, Err, map, subst, ok_or, arguments_in, IsMissing, region_of, value_or, to_number, match_value, cells_of, NotAvailable, Number, Error, IsMissingIn, is_line, position_by, is_referred, region_is, Places}
use Rattle.wi_fraction.specs.Number as numbers
use Rattle.wi_lookup_functions.proofs.Chains.{match_no_area, match_no_sought, match_no_type, match_off_line, match_on_line, sought_in}
use Rattle.wi_lookup_functions.proofs.NoValues.{placed, ends_so, placing_ended}
use Rattle.wi_lookup_functions.proofs.match_place.match_place.Goals as goal

pub returns-in_err-sought : goal.returns-in_err-sought
returns-in_err-sought g c =
    let known = g.L.Lookup.known_cell c.args.lookup.now in
    let args = c.args.arguments.now in
    ends_so (Places known args match_value) c.from_residual.result c.in_err-sought.field-0.0 c.from_residual.ensures.1
    (placing_ended {A = Bor Value} {B = Value} known args match_value (IsMissing known args) (λ v. v.now) (λ cells. sought_in (arguments_in cells args)) c.in_err-sought.field-0.0 (λ a m. m)
    (λ cells a e q. match_no_sought (arguments_in cells args) e q) c.in_err-sought.ensures)

pub returns-in_err-area : goal.returns-in_err-area
returns-in_err-area g c =
    let known = g.L.Lookup.known_cell c.args.lookup.now in
    let args = c.args.arguments.now in
    ends_so (Places known args match_value) c.from_residual-in_err-area.result (Error c.in_err-area.field-0.0) c.from_residual-in_err-area.ensures.1
    (λ cells a. match_no_area (arguments_in cells args) c.in_ok-sought.sought.now c.in_err-area.field-0.0 (c.in_ok-sought.ensures cells a) (region_is args 1 (Err c.in_err-area.field-0.0) c.in_err-area.ensures cells))

pub returns-in_err-match_type : goal.returns-in_err-match_type
returns-in_err-match_type g c =
    let known = g.L.Lookup.known_cell c.args.lookup.now in
    let args = c.args.arguments.now in
    let r = c.in_ok-area.area in
    ends_so (Places known args match_value) c.from_residual-in_err-match_type.result c.in_err-match_type.field-0.0 c.from_residual-in_err-match_type.ensures.1
    (placing_ended {A = numbers.Number} {B = numbers.Number} known args match_value (IsMissing known args) (λ x. x) (λ cells. to_number (value_or (Number c.one.result) (arguments_in cells args) 2)) c.in_err-match_type.field-0.0 (λ a m. m)
    (λ cells a e q. match_no_type (arguments_in cells args) c.in_ok-sought.sought.now (region_of cells r) e (c.in_ok-sought.ensures cells a) (region_is args 1 (Ok r) c.in_ok-area.ensures cells) (subst (λ (x : numbers.Number). to_number (value_or (Number x) (arguments_in cells args) 2) ≡ Err e) c.one.ensures q)) c.in_err-match_type.ensures)

pub returns-then-not-is_line : goal.returns-then-not-is_line
returns-then-not-is_line g c =
    let args = c.args.arguments.now in
    let r = c.in_ok-area.area in
    let off : is_line r ≡ false = cc in
    λ cells a. match_off_line (arguments_in cells args) cells c.in_ok-sought.sought.now r c.in_ok-match_type.match_type (c.in_ok-sought.ensures cells a) (region_is args 1 (Ok r) c.in_ok-area.ensures cells)
    (subst (λ (x : numbers.Number). to_number (value_or (Number x) (arguments_in cells args) 2) ≡ Ok c.in_ok-match_type.match_type) c.one.ensures (c.in_ok-match_type.ensures cells a)) off

pub returns : goal.returns
returns g c =
    let known = g.L.Lookup.known_cell c.args.lookup.now in
    let args = c.args.arguments.now in
    let r = c.in_ok-area.area in
    let on : is_line r ≡ true = cc in
    placed known args match_value (IsMissingIn known r) (λ cells. ok_or (position_by c.of_match_type.result c.in_ok-sought.sought.now (map cells (cells_of r))) NotAvailable) c.place_along.result
    (λ b m. (m.0, is_referred args 1 r c.in_ok-area.ensures b m.1))
    (λ cells a. match_on_line (arguments_in cells args) cells c.in_ok-sought.sought.now r c.in_ok-match_type.match_type c.of_match_type.result (c.in_ok-sought.ensures cells a) (region_is args 1 (Ok r) c.in_ok-area.ensures cells)
    (subst (λ (x : numbers.Number). to_number (value_or (Number x) (arguments_in cells args) 2) ≡ Ok c.in_ok-match_type.match_type) c.one.ensures (c.in_ok-match_type.ensures cells a)) on c.of_match_type.ensures)
    c.place_along.ensures.place
