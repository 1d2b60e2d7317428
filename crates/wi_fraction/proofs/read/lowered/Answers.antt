use Rattle.wi_fraction.proofs.Vocabulary.{arith, sym, ◌∙◌, take_rest}
use Rattle.std.proofs.Common.{◌++◌}
use Rattle.wi_fraction.proofs.Pieces.{digits_append, digits_take}
use Rattle.wi_fraction.proofs.Reading.{digits_drop, part_below_one}
use Rattle.wi_fraction.proofs.Exponents.{lowered_by_cut, lowered_none, lowered_some}
use Rattle.wi_fraction.proofs.read.lowered.Goals as goal

pub decimal-requires-clause-whole : goal.decimal-requires-clause-whole
decimal-requires-clause-whole c = rw c.alone.ensures (digits_take _ c.args.whole.now c.requires.whole)

pub decimal-requires-clause-parts : goal.decimal-requires-clause-parts
decimal-requires-clause-parts c = rw c.joined.ensures (digits_append _ c.args.parts.now (digits_take _ _ (digits_drop _ c.args.whole.now c.requires.whole)) c.requires.parts)

pub returns-then-power-places : goal.returns-then-power-places
returns-then-power-places c =
    let cut = rw (c.alone.ensures, c.joined.ensures) at c.decimal.ensures in
    cut ∙ rw take_rest (lowered_by_cut c.args.whole.now c.args.parts.now c.args.power (omega arith))

pub decimal_part-requires : goal.decimal_part-requires
decimal_part-requires c = rw c.joined-2.ensures (digits_append c.args.whole.now c.args.parts.now c.requires.whole c.requires.parts)

pub returns-in_err-part : goal.returns-in_err-part
returns-in_err-part c =
    let part = rw c.joined-2.ensures at c.decimal_part.ensures in
    c.from_residual.ensures ∙ lowered_none c.args.whole.now c.args.parts.now c.args.power (digits_append _ _ c.requires.whole c.requires.parts) (omega arith) (sym c.in_err-part.was ∙ part)

pub lowered_part-requires-clause-below_one : goal.lowered_part-requires-clause-below_one
lowered_part-requires-clause-below_one c =
    let part = rw c.joined-2.ensures at c.in_ok-part.ensures in
    part_below_one (c.args.whole.now ++ c.args.parts.now) 0 _ _ c.in_ok-part.part (digits_append _ _ c.requires.whole c.requires.parts) part c.size.ensures c.denominator.ensures

pub returns : goal.returns
returns c =
    let part = rw c.joined-2.ensures at c.in_ok-part.ensures in
    lowered_some c.args.whole.now c.args.parts.now c.args.power _ _ c.in_ok-part.part _ (omega arith) part c.size.ensures c.denominator.ensures c.lowered_part.ensures
