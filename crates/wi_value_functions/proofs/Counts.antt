-- A count goes no higher than it fits, and no number is so great.
use Rattle.wi_value_functions.proofs.Words.{◌≡◌, ℕ, ◌+◌, ◌<◌, Bool, true, false, cond, refl, sym, ap, ◌∙◌, inl, arith, ◌^◌, min, nat_le, Result, Err, sub-add-min_cancel, nat_tests, number_at-too_large, number_of-whole, ErrorKind, BadNumber, fitting, whole_number, whole_value, ◌>>=◌, counted, IsCut}
use Rattle.std.specs.Prelude.{◌-◌}
use Rattle.wi_fraction.specs.Number as numbers
use Rattle.wi_values.specs.declared.value.Value.TheVariants.{Number}

pub too_many : (n : ℕ) → 2 ^ 127 - 1 < n → whole_number n ≡ Err BadNumber
too_many n h = ap fitting (sym (number_at-too_large false n 1 (inl h) ∙ number_of-whole false n))

pub cut_number : (c n : ℕ) → IsCut c n → whole_number c ≡ whole_number n
cut_number c n e = at (nat_le n (2 ^ 128 - 1)) refl
  where
    at : (b : Bool) → nat_le n (2 ^ 128 - 1) ≡ b → whole_number c ≡ whole_number n
    at true h = let m = sub-add-min_cancel n (2 ^ 128 - 1) in let same : c ≡ n = grind (arith, nat_tests) in ap whole_number same
    at false h = let m = sub-add-min_cancel n (2 ^ 128 - 1) in let great : 2 ^ 127 - 1 < n = grind (arith, nat_tests) in let great_cut : 2 ^ 127 - 1 < c = grind (arith, nat_tests) in too_many c great_cut ∙ sym (too_many n great)

pub cut_value : (c n : ℕ) → IsCut c n → whole_value c ≡ whole_value n
cut_value c n e = ap (λ (r : Result numbers.Number ErrorKind). r >>= (λ x. Number x)) (cut_number c n e)

pub cut_more : (c n : ℕ) → IsCut c n → IsCut (min (c + 1) (2 ^ 128 - 1)) (n + 1)
cut_more c n e =
    let m = sub-add-min_cancel n (2 ^ 128 - 1) in
    let k = sub-add-min_cancel (c + 1) (2 ^ 128 - 1) in
    let l = sub-add-min_cancel (n + 1) (2 ^ 128 - 1) in
    omega arith

pub cut_counted : (b : Bool) (c n : ℕ) → IsCut c n → IsCut (counted b c) (n + cond b 1 0)
cut_counted true c n e = cut_more c n e
cut_counted false c n e = omega (arith, e)

pub none_cut : (c : ℕ) → c ≡ 0 → IsCut c 0
none_cut c e = let m = sub-add-min_cancel 0 (2 ^ 128 - 1) in omega arith
