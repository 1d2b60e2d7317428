use Rattle.std.proofs.Common.{◌≡◌, ◌<◌, ◌-◌, ◌%◌}
use Rattle.wi_fraction.proofs.Vocabulary.{◌^◌, places_from, places}
use Rattle.wi_fraction.proofs.decimal.all_places.Given as goal

-- ten to the power k without multiples of d, and the places that are left to try
abbrev pub invariant-loop-k : goal.invariant-loop-k
invariant-loop-k l = record {
  power : l.rest ≡ 10 ^ l.k % l.d;
  below : l.rest < l.d;
  left : places 126 l.d ≡ places_from (127 - l.k) l.k l.d;
}
