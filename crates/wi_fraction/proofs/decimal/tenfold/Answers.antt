use Rattle.std.proofs.Common.{◌*◌}
use Rattle.wi_fraction.proofs.Decimals.{quotient_is, rest_is, tenfold_is}
use Rattle.wi_fraction.proofs.decimal.tenfold.Goals as goal

pub returns-clause-digit : goal.returns-clause-digit
returns-clause-digit c =
    quotient_is (c.args.rest * 10) c.twofold-ten.result.digit c.twofold-ten.result.rest c.args.d
    (tenfold_is c.twofold-two.result.digit c.twofold-two.result.rest c.twofold-four.result.digit c.twofold-four.result.rest c.twofold-ten.result.digit c.twofold-ten.result.rest c.args.d c.args.rest
    c.twofold-two.ensures.same c.twofold-four.ensures.same (rw (c.divide.ensures, c.remainder.ensures) at c.twofold-ten.ensures.same)) c.twofold-ten.ensures.below

pub returns-clause-rest : goal.returns-clause-rest
returns-clause-rest c =
    rest_is (c.args.rest * 10) c.twofold-ten.result.digit c.twofold-ten.result.rest c.args.d
    (tenfold_is c.twofold-two.result.digit c.twofold-two.result.rest c.twofold-four.result.digit c.twofold-four.result.rest c.twofold-ten.result.digit c.twofold-ten.result.rest c.args.d c.args.rest
    c.twofold-two.ensures.same c.twofold-four.ensures.same (rw (c.divide.ensures, c.remainder.ensures) at c.twofold-ten.ensures.same)) c.twofold-ten.ensures.below
