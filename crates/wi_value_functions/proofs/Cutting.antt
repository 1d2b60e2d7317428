-- A number is cut toward zero by rounding it at no place.
use Rattle.wi_value_functions.proofs.Words.{◌≡◌, ap, ◌∙◌, pos, ◌*ℤ◌, Some, Number, number_of, rounded, round_to, Toward, of_parts, mul-one-int}

scaled_by_one : (x : Number) → number_of (x.num *ℤ pos 1) x.den ≡ Some x
scaled_by_one x = ap (λ z. number_of z x.den) (mul-one-int x.num) ∙ of_parts x

pub cut_is : (x : Number) → round_to x (pos 0) Toward ≡ Some (rounded Toward x)
unfolding round_to
cut_is x = rw (scaled_by_one x) (scaled_by_one (rounded Toward x))
