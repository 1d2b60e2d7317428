use Rattle.wi_fraction.proofs.Vocabulary.{arith, sym, ◌∙◌, take_rest, gcd-one}
use Rattle.wi_fraction.proofs.Pieces.{digits_append, digits_take}
use Rattle.wi_fraction.proofs.Reading.{digits_drop}
use Rattle.wi_fraction.proofs.Exponents.{raised_by_cut, raised_none_whole, raised_none, raised_some}
use Rattle.wi_fraction.proofs.read.raised.Goals as goal

pub decimal-requires-clause-whole : goal.decimal-requires-clause-whole
decimal-requires-clause-whole c = rw c.joined.ensures (digits_append c.args.whole.now _ c.requires.whole (digits_take _ c.args.parts.now c.requires.parts))

pub decimal-requires-clause-parts : goal.decimal-requires-clause-parts
decimal-requires-clause-parts c = rw c.alone.ensures (digits_take _ _ (digits_drop _ c.args.parts.now c.requires.parts))

pub returns-then-power-places : goal.returns-then-power-places
returns-then-power-places c =
    let cut = rw (c.joined.ensures, c.alone.ensures) at c.decimal.ensures in
    cut ∙ rw take_rest (raised_by_cut c.args.whole.now c.args.parts.now c.args.power (omega arith))

pub whole_number-requires : goal.whole_number-requires
whole_number-requires c = rw c.joined-2.ensures (digits_append c.args.whole.now c.args.parts.now c.requires.whole c.requires.parts)

pub returns-in_err-number : goal.returns-in_err-number
returns-in_err-number c =
    let number = rw c.joined-2.ensures at c.whole_number.ensures in
    c.from_residual.ensures ∙ raised_none_whole c.args.whole.now c.args.parts.now c.args.power (omega arith) (sym c.in_err-number.was ∙ number)

pub returns-in_err-size : goal.returns-in_err-size
returns-in_err-size c =
    let number = rw c.joined-2.ensures at c.in_ok-number.ensures in
    c.from_residual-in_err-size.ensures ∙ raised_none c.args.whole.now c.args.parts.now c.args.power c.in_ok-number.number (omega arith) number (sym c.in_err-size.was ∙ c.raised_size.ensures)

pub number_at-requires-clause-lowest : goal.number_at-requires-clause-lowest
number_at-requires-clause-lowest c = gcd-one _

pub returns : goal.returns
returns c =
    let number = rw c.joined-2.ensures at c.in_ok-number.ensures in
    raised_some c.args.whole.now c.args.parts.now c.args.power c.in_ok-number.number _ _ (omega arith) number c.in_ok-size.ensures c.number_at.ensures
