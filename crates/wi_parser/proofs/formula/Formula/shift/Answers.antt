use Rattle.wi_parser.proofs.Words.{sym, subst, to_z-of_z, IsFormulaTree}
use Rattle.wi_parser.proofs.FormulaTrees.{moved_tree}
use Rattle.wi_parser.proofs.Answered.{shifted_none, shifted_found}
use Rattle.wi_parser.proofs.formula.Formula.shift.Goals as goal

pub new-requires : goal.new-requires
new-requires c = subst IsFormulaTree (sym c.in_ok-expr.ensures) (moved_tree _ _ _ c.self.invariant.tree)

pub returns-then-not-all_stay : goal.returns-then-not-all_stay
returns-then-not-all_stay c =
    let down = c.ranges.rows in
    let right = c.ranges.columns in
    let leaves_sheet = simp to_z-of_z at c.if-not-all_stay.ensures in
    shifted_none _ _ _ _ c.self.view_is leaves_sheet

pub returns : goal.returns
returns c =
    let down = c.ranges.rows in
    let right = c.ranges.columns in
    let stay = simp to_z-of_z at c.if-not-all_stay.ensures in
    let made = simp to_z-of_z at c.in_ok-expr.ensures in
    shifted_found _ _ _ _ _ _ c.self.view_is stay made c.in_ok-new.ensures
