-- There are at most 38 places before and after the point.
use Rattle.wi_value_functions.proofs.Words.{◌≡◌, ◌<◌, arith, ℤ, unsigned_abs, None, nat_tests, Number, round_to, Mode}

pub none_beyond : (x : Number) (k : ℤ) (m : Mode) → 38 < unsigned_abs k → round_to x k m ≡ None
unfolding round_to
none_beyond x k m h = grind (arith, nat_tests)
