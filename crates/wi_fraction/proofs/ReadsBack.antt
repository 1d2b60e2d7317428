-- Each shown text reads back to its number.
use Rattle.wi_fraction.proofs.Vocabulary.{◌≡◌, ℕ, zero, suc, ◌+◌, ◌*◌, ◌/◌, ◌%◌, ◌^◌, ◌<◌, ◌≤◌, pos, Bool, true, false, ◌&&◌, nat_lt, nat_le, List, [], ◌∷◌, ◌++◌, length, slice_index, ◌==◌, Option, Some, None, unsigned_abs, int_lt, refl, decimal, is_ascii_digit, all_ascii_digits, digits_value, IsNumeral, prefix_len, ap, ◌∙◌, sym, subst, arith, rules, tests, nat_tests, decimal_is_IsNumeral_wide, take-append_seam, drop-append_seam, pow-zero, mul_assoc, add-mul, one-le-pow, div-le_self, append-nil, places, padded, size_text, sign_text, text_of, is_numeral, read_after, read_size, read, number_of, number_at, with_minus, max_size, number_at-some, gcd, ReadsBack}
use Rattle.std.proofs.lemmas.Nat.{div-add-mod'}
use Rattle.wi_fraction.proofs.Scanning.{own}
use Rattle.wi_fraction.proofs.Numbers.{number_of-scaled, number_of-lowest}
use Rattle.wi_fraction.proofs.Steps.{with_minus-abs}
use Rattle.wi_fraction.proofs.Padded.{length-padded, digits_padded, value_padded}
use Rattle.wi_fraction.proofs.Places.{places_divide, multiple_of, factor_pos, rest_less, divides_one}

pub scan : (ds rest : List ℕ) → all_ascii_digits ds ≡ true → prefix_len is_ascii_digit rest ≡ 0 → prefix_len is_ascii_digit (ds ++ rest) ≡ length ds
scan [] rest h e = e
scan (c ∷ cs) rest h e =
    let first : is_ascii_digit c ≡ true = search (rules, tests) in
    let others : all_ascii_digits cs ≡ true = search (rules, tests) in
    rw (first, scan cs rest others e) (omega arith)

pub read_size_scanned : (s : Bool) (ds rest : List ℕ) → IsNumeral 10 ds → prefix_len is_ascii_digit rest ≡ 0 → read_size s (ds ++ rest) ≡ read_after s ds rest
unfolding read_size
read_size_scanned s ds rest h e =
    let some : (length ds == 0) ≡ false = grind (arith, nat_tests, h.0) in
    rw (scan ds rest (own.from ds h.1) e, some, take-append_seam ds rest, drop-append_seam ds rest)

pub first_digit : (ds rest : List ℕ) → IsNumeral 10 ds → is_ascii_digit (slice_index (ds ++ rest) 0) ≡ true
first_digit [] rest h = absurd (omega (arith, h.0))
first_digit (c ∷ cs) rest h =
    let all : all_ascii_digits (c ∷ cs) ≡ true = own.from (c ∷ cs) h.1 in
    search (rules, tests)

pub read_signed : (s : Bool) (bs : List ℕ) → is_ascii_digit (slice_index bs 0) ≡ true → read (sign_text s ++ bs) ≡ read_size s bs
unfolding read
read_signed true bs h = refl
read_signed false bs h =
    let minus : (slice_index bs 0 == 45) ≡ false = grind (arith, nat_tests) in
    let plus : (slice_index bs 0 == 43) ≡ false = grind (arith, nat_tests) in
    rw (minus, plus)

read_scanned : (s : Bool) (ds rest : List ℕ) → IsNumeral 10 ds → prefix_len is_ascii_digit rest ≡ 0 → read (sign_text s ++ (ds ++ rest)) ≡ read_after s ds rest
read_scanned s ds rest h e = read_signed s (ds ++ rest) (first_digit ds rest h) ∙ read_size_scanned s ds rest h e

pub numeral : (n : ℕ) → n ≤ max_size → IsNumeral 10 (decimal n)
numeral n h = (decimal_is_IsNumeral_wide n (omega arith)).0

value_decimal : (n : ℕ) → n ≤ max_size → digits_value 10 (decimal n) ≡ n
value_decimal n h = (decimal_is_IsNumeral_wide n (omega arith)).1

pub is_numeral-true : (ds : List ℕ) → IsNumeral 10 ds → is_numeral ds ≡ true
is_numeral-true ds h = let all : all_ascii_digits ds ≡ true = own.from ds h.1 in let some = h.0 in grind (arith, nat_tests)

read_quotient_text : (s : Bool) (n d : ℕ) → 0 < d → n ≤ max_size → d ≤ max_size → gcd n d ≡ 1 → read_after s (decimal n) (47 ∷ decimal d) ≡ number_at (with_minus s n) d
unfolding read_after
read_quotient_text s n d dp nm dm one =
    let q : is_numeral (decimal d) ≡ true = is_numeral-true (decimal d) (numeral d dm) in
    let t : (nat_lt 0 d && nat_le n max_size && nat_le d max_size) ≡ true = grind (arith, nat_tests) in
    rw (q, value_decimal n nm, value_decimal d dm, t) (number_of-lowest s n d one)

whole_and_rest : (n d m : ℕ) → n / d * (d * m) + n % d * m ≡ n * m
whole_and_rest n d m = sym (ap (λ k. k + n % d * m) (mul_assoc (n / d) d m)) ∙ sym (add-mul (n / d * d) (n % d) m) ∙ ap (λ k. k * m) (div-add-mod' n d)

-- the digits of n/d at the places of t = d * m
number_of_places : (s : Bool) (n d t m : ℕ) → t ≡ d * m → 0 < m → gcd n d ≡ 1 → number_of (with_minus s (n / d * t + n % d * m)) t ≡ number_at (with_minus s n) d
number_of_places s n d t m e mp one = rw (e, whole_and_rest n d m) (number_of-scaled s n d m mp one)

pub numeral_padded : (k n : ℕ) → is_numeral (padded (suc k) n) ≡ true
numeral_padded k n = is_numeral-true (padded (suc k) n) (rw (length-padded (suc k) n) (omega arith), digits_padded (suc k) n)

pub div_small : (n d : ℕ) → n ≤ max_size → n / d ≤ max_size
div_small n d h = omega (arith, div-le_self n d)

pub read_places_text : (s : Bool) (n d k : ℕ) → 0 < d → n ≤ max_size → gcd n d ≡ 1 → 10 ^ suc k % d ≡ 0 → read_after s (decimal (n / d)) (46 ∷ padded (suc k) (n % d * (10 ^ suc k / d))) ≡ number_at (with_minus s n) d
unfolding read_after
read_places_text s n d k dp nm one e =
    let t = 10 ^ suc k in
    let m = t / d in
    let multiple : t ≡ d * m = multiple_of t d e in
    let mp : 0 < m = factor_pos t d m multiple (one-le-pow (suc k) 10 (omega arith)) in
    let less : n % d * m < 10 ^ suc k = subst (λ u. n % d * m < u) (sym multiple) (rest_less n d m dp mp) in
    rw (numeral_padded k (n % d * m), value_padded (suc k) (n % d * m) (decimal (n / d)) less, value_decimal (n / d) (div_small n d nm), length-padded (suc k) (n % d * m)) (number_of_places s n d t m multiple mp one)

pub read_whole_text : (s : Bool) (n : ℕ) → n ≤ max_size → read_after s (decimal n) [] ≡ number_of (with_minus s n) 1
unfolding read_after
read_whole_text s n nm = rw (append-nil (decimal n), value_decimal n nm, pow-zero 10)

read_text : (s : Bool) (n d : ℕ) (p : Option ℕ) → ((j : ℕ) → p ≡ Some j → 10 ^ j % d ≡ 0) → 0 < d → n ≤ max_size → d ≤ max_size → gcd n d ≡ 1 → read (sign_text s ++ size_text p n d) ≡ number_at (with_minus s n) d
unfolding size_text
read_text s n d None h dp nm dm one = read_scanned s (decimal n) (47 ∷ decimal d) (numeral n nm) refl ∙ read_quotient_text s n d dp nm dm one
read_text s n d (Some zero) h dp nm dm one =
    let whole : d ≡ 1 = divides_one d dp (h 0 refl) in
    ap (λ ds. read (sign_text s ++ ds)) (sym (append-nil (decimal n))) ∙ read_scanned s (decimal n) [] (numeral n nm) refl ∙ read_whole_text s n nm ∙ number_of-lowest s n 1 (subst (λ k. gcd n k ≡ 1) whole one) ∙ ap (λ k. number_at (with_minus s n) k) (sym whole)
read_text s n d (Some (suc k)) h dp nm dm one = read_scanned s (decimal (n / d)) _ (numeral (n / d) (div_small n d nm)) refl ∙ read_places_text s n d k dp nm one (h (suc k) refl)

pub reads_back : ReadsBack
unfolding text_of
reads_back x =
    let s = int_lt x.num (pos 0) in
    read_text s (unsigned_abs x.num) x.den (places 12 x.den) (places_divide x.den) x.is_number.above_zero x.is_number.num_fits x.is_number.den_fits x.is_number.lowest
    ∙ rw (with_minus-abs x.num) (number_at-some x.num x.den x refl refl)
