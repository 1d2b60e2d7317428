use Rattle.wi_fraction.proofs.Vocabulary.{string_bytes, ◌^◌, padded}
use Rattle.std.proofs.Common.{◌≡◌, ◌<◌, ◌*◌, ◌/◌, ◌%◌, ◌++◌}
use Rattle.wi_fraction.proofs.decimal.push_digits.Given as goal

-- the digits so far, and what is left of n
abbrev pub invariant-loop-i : goal.invariant-loop-i
invariant-loop-i l = record {
  written : string_bytes l.text ≡ string_bytes l.fn.text ++ padded l.i (l.n * 10 ^ l.i / l.d);
  left : l.rest ≡ l.n * 10 ^ l.i % l.d;
  below : l.rest < l.d;
}
