use Rattle.wi_parser.proofs.Words.{map, ap₂, w64, to_z, of_z, to_z-of_z, pair_of, moved}
use Rattle.wi_parser.proofs.Shifts.{what_if_of_moved}
use Rattle.wi_parser.proofs.shift.what_if.Goals as goal

pub returns : goal.returns
returns c =
    let g = moved (to_z w64 (of_z w64 c.args.rows)) (to_z w64 (of_z w64 c.args.columns)) in
    let same = ap₂ moved (to_z-of_z w64 c.args.rows c.ranges.rows) (to_z-of_z w64 c.args.columns c.ranges.columns) in
    what_if_of_moved g (moved c.args.rows c.args.columns) c.in_ok-new.field-0 (record { formula_cell = c.moved-formula_cell.result; pairs = c.in_ok-pairs.pairs }) c.args.f.now (map pair_of c.args.pairs.now)
    c.in_ok-new.ensures.ok c.moved-formula_cell.ensures c.in_ok-pairs.ensures same
