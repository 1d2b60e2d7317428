use Rattle.wi_tiles.proofs.Words.{arith, ap, length, slot, IsFilled}
use Rattle.wi_tiles.proofs.Filled.{all_none}
use Rattle.wi_tiles.proofs.sorted.BandPlaces.vacant.Goals as goal

pub invariant_of-result : goal.invariant_of-result
invariant_of-result g c = (λ i j l q. omega (arith, q, ap length c.new.ensures.items), all_none (IsFilled slot) c.new.result.items c.new.ensures.items)
