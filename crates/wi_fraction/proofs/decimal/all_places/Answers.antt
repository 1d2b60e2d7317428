use Rattle.wi_fraction.proofs.Vocabulary.{arith, mod-lt}
use Rattle.wi_fraction.proofs.Decimals.{all_places_begin, all_found, all_next, all_end, next_power}
use Rattle.wi_fraction.proofs.decimal.all_places.Goals as goal

pub loop-k-init : goal.loop-k-init
loop-k-init c = record { power = c.remainder-rest.ensures; below = rw c.remainder-rest.ensures (mod-lt 1 c.requires.above_zero); left = all_places_begin c.args.d }

pub returns-then-rest-eq0 : goal.returns-then-rest-eq0
returns-then-rest-eq0 c = all_found c.loop-k.k c.args.d c.loop-k.rest (omega arith) c.loop-k.invariant.power c.if-rest-eq0.true c.loop-k.invariant.left

pub loop-k-preserved : goal.loop-k-preserved
loop-k-preserved c = record {
  power = next_power c.loop-k.k c.args.d c.loop-k.rest c.tenfold-rest.result.rest c.loop-k.invariant.power c.tenfold-rest.ensures.rest;
  below = rw c.tenfold-rest.ensures.rest (mod-lt _ c.requires.above_zero);
  left = all_next c.loop-k.k c.args.d c.loop-k.rest (omega arith) c.loop-k.invariant.power c.if-rest-eq0.false c.loop-k.invariant.left;
}

pub returns : goal.returns
returns c = all_end c.loop-k.k c.args.d (omega arith) c.loop-k.invariant.left
