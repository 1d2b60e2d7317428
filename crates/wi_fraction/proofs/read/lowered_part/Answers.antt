use Rattle.wi_fraction.proofs.Vocabulary.{arith, sym, ◌∙◌, ◌^◌, mul-pos}
use Rattle.std.proofs.Common.{◌*◌}
use Rattle.wi_fraction.proofs.Exponents.{ten_pow_few, none_lowered, one_lowest, zero_of}
use Rattle.wi_fraction.proofs.Fineness.{ten_pow_pos}
use Rattle.wi_fraction.proofs.read.lowered_part.Goals as goal

pub returns-then-n-eq0 : goal.returns-then-n-eq0
returns-then-n-eq0 c = c.zero.ensures ∙ sym (rw c.if-n-eq0.true (zero_of (c.args.d * 10 ^ c.args.places) (mul-pos (omega arith) (ten_pow_pos c.args.places))))

pub returns-then-places-gt38 : goal.returns-then-places-gt38
returns-then-places-gt38 c = none_lowered c.args.n c.args.d c.args.places (omega arith) c.requires.below_one (omega arith)

pub pow-requires : goal.pow-requires
pow-requires c = let few = ten_pow_few c.args.places (omega arith) in omega (arith, few)

pub multiplied-requires-clause-second_above_zero : goal.multiplied-requires-clause-second_above_zero
multiplied-requires-clause-second_above_zero c = rw c.pow.ensures (ten_pow_pos c.args.places)

pub multiplied-requires-clause-second_lowest : goal.multiplied-requires-clause-second_lowest
multiplied-requires-clause-second_lowest c = one_lowest c.pow.result
