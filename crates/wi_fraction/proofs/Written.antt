-- A number token is read as the value of what it writes, and what is read writes a decimal.
use Rattle.wi_fraction.proofs.Vocabulary.{◌≡◌, ℕ, suc, ◌+◌, ◌*◌, ◌^◌, ◌<◌, ℤ, pos, neg_ℤ, Bool, true, false, cond, not, ◌==◌, List, [], ◌∷◌, ◌++◌, length, take, drop, slice_index, Option, Some, None, refl, is_ascii_digit, prefix_len, all_ascii_digits, AllDigits, IsNumeral, digits_value, sym, ap, ◌∙◌, subst, arith, eqb-true, nat_tests, append-nil, take-append-drop, length-prefix_len, mul-one, pow-zero, take-append_seam, drop-append_seam, ReadsWhatIsWritten, Number, number_of, is_numeral, decimal_value, raised, lowered, with_exponent, exponent_after, scaled_after, point_after, decimal_after, read_decimal, is_exponent_letter, WritesDigits, WritesExponent, none, power, plain, point, WritesNumber, writes, IsDecimalText, times_ten_to, with_minus, IsSign, no_sign, plus, minus, to_ascii_uppercase, pow-add, zero}
use Rattle.std.specs.Prelude.{if◌then◌else◌}
use Rattle.std.proofs.Common.{append_assoc}
use Rattle.wi_fraction.proofs.DecimalsReadBack.{read_scanned, some_digits}
use Rattle.wi_fraction.proofs.ReadsBack.{scan, first_digit, is_numeral-true}
use Rattle.wi_fraction.proofs.Scanning.{own, digits_before}

-- ---- values

-- a size over a power of ten
plain_value : (n p : ℕ) → number_of (pos n) (10 ^ p) ≡ times_ten_to (pos 0) (pos n) (10 ^ p)
plain_value n p = let same : n * 10 ^ 0 ≡ n = ap (λ i. n * i) (pow-zero 10) ∙ mul-one n in ap (λ i. number_of (pos i) (10 ^ p)) (sym same)

-- with an exponent below zero
lowered_value : (n p k : ℕ) → number_of (pos n) (10 ^ (p + k)) ≡ times_ten_to (neg_ℤ (pos k)) (pos n) (10 ^ p)
lowered_value n p zero = let same : p + 0 ≡ p = omega arith in ap (λ i. number_of (pos n) (10 ^ i)) same ∙ plain_value n p
lowered_value n p (suc k) = ap (λ d. number_of (pos n) d) (pow-add 10 p (suc k))

-- ---- what is written is read

pub letter_from_capital : (c : ℕ) → to_ascii_uppercase c ≡ 69 → is_exponent_letter c ≡ true
letter_from_capital c h = grind (arith, nat_tests)

pub capital_from_letter : (c : ℕ) → is_exponent_letter c ≡ true → to_ascii_uppercase c ≡ 69
capital_from_letter c h = grind (arith, nat_tests)

pub letter_no_digit : (c : ℕ) → is_exponent_letter c ≡ true → is_ascii_digit c ≡ false
letter_no_digit c h = grind (arith, nat_tests)

pub letter_no_point : (c : ℕ) → is_exponent_letter c ≡ true → (c == 46) ≡ false
letter_no_point c h = grind (arith, nat_tests)

-- an exponent begins with no digit
no_digit : (rest : List ℕ) (k : ℤ) → WritesExponent rest k → prefix_len is_ascii_digit rest ≡ 0
no_digit rest k none = refl
no_digit rest k (power c sign ds s letter is h) = rw (letter_no_digit c (letter_from_capital c letter)) refl

-- the digits of an exponent without a sign
digits_exponent : (ds w p : List ℕ) → IsNumeral 10 ds → exponent_after w p ds ≡ raised w p (digits_value 10 ds)
unfolding exponent_after with_exponent
digits_exponent ds w p h =
    let digit : is_ascii_digit (slice_index ds 0) ≡ true = rw (append-nil ds) at (first_digit ds [] h) in
    let no_minus : (slice_index ds 0 == 45) ≡ false = grind (arith, nat_tests) in
    let no_plus : (slice_index ds 0 == 43) ≡ false = grind (arith, nat_tests) in
    rw (no_minus, no_plus, is_numeral-true ds h) refl

signed_exponent : (s : Bool) (ds w p : List ℕ) → IsNumeral 10 ds → with_exponent s w p ds ≡ (if s then lowered w p (digits_value 10 ds) else raised w p (digits_value 10 ds))
unfolding with_exponent
signed_exponent s ds w p h = rw (is_numeral-true ds h) refl

after_letter : (c : ℕ) (more w p : List ℕ) → is_exponent_letter c ≡ true → scaled_after w p (c ∷ more) ≡ exponent_after w p more
unfolding scaled_after
after_letter c more w p letter = rw letter refl

-- the value of what is written before an exponent, with it
abbrev scaled_by : List ℕ → List ℕ → ℤ → Option Number
scaled_by w p k = times_ten_to k (pos (digits_value 10 (w ++ p))) (10 ^ length p)

sign_value : (sign : List ℕ) (s : Bool) → IsSign sign s → (ds w p : List ℕ) → IsNumeral 10 ds → exponent_after w p (sign ++ ds) ≡ scaled_by w p (with_minus s (digits_value 10 ds))
unfolding exponent_after
sign_value sign s no_sign ds w p h = digits_exponent ds w p h
sign_value sign s plus ds w p h = signed_exponent false ds w p h
sign_value sign s minus ds w p h = signed_exponent true ds w p h ∙ lowered_value (digits_value 10 (w ++ p)) (length p) (digits_value 10 ds)

exponent_value : (rest : List ℕ) (k : ℤ) → WritesExponent rest k → (w p : List ℕ) → scaled_after w p rest ≡ scaled_by w p k
unfolding scaled_after
exponent_value rest k none w p = plain_value (digits_value 10 (w ++ p)) (length p)
exponent_value rest k (power c sign ds s letter is h) w p = after_letter c (sign ++ ds) w p (letter_from_capital c letter) ∙ sign_value sign s is ds w p h

whole_rest : (ds rest : List ℕ) (k : ℤ) → IsNumeral 10 ds → WritesExponent rest k → decimal_after ds rest ≡ scaled_after ds [] rest
unfolding decimal_after scaled_after
whole_rest ds rest k h none = rw (some_digits ds h) refl
whole_rest ds rest k h (power c sign es s letter is i) = rw (letter_no_point c (letter_from_capital c letter), some_digits ds h) refl

point_rest : (ds es rest : List ℕ) → IsNumeral 10 es → prefix_len is_ascii_digit rest ≡ 0 → decimal_after ds (46 ∷ es ++ rest) ≡ scaled_after ds es rest
unfolding decimal_after point_after
point_rest ds es rest h e = rw (scan es rest (own.from es h.1) e, some_digits es h, take-append_seam es rest, drop-append_seam es rest) refl

digits_rest : (text w p : List ℕ) → WritesDigits text w p → (rest : List ℕ) (k : ℤ) → WritesExponent rest k → read_decimal (text ++ rest) ≡ scaled_after w p rest
digits_rest text w p (plain ds h) rest k e = read_scanned ds rest h.1 (no_digit rest k e) ∙ whole_rest ds rest k h e
digits_rest text w p (point ds es h i) rest k e = ap read_decimal (append_assoc ds (46 ∷ es) rest) ∙ read_scanned ds (46 ∷ es ++ rest) h refl ∙ point_rest ds es rest i (no_digit rest k e)

value : (text : List ℕ) (o : Option Number) → WritesNumber text o → read_decimal text ≡ o
value text _ (writes front rest w p k d e) = digits_rest front w p d rest k e ∙ exponent_value rest k e w p

-- ---- what is read is written

pub some_if : (b : Bool) (o : Option Number) (x : Number) → (if b then None else o) ≡ Some x → (b ≡ false) × (o ≡ Some x)
some_if true o x e = cc
some_if false o x e = (refl, e)

pub some_then : (b : Bool) (o : Option Number) (x : Number) → (if b then o else None) ≡ Some x → (b ≡ true) × (o ≡ Some x)
some_then true o x e = (refl, e)
some_then false o x e = cc

pub numeral_from_test : (ds : List ℕ) → not (is_numeral ds) ≡ false → IsNumeral 10 ds
numeral_from_test ds h =
    let some : 0 < length ds = grind (arith, nat_tests) in
    let all : all_ascii_digits ds ≡ true = grind (arith, nat_tests) in
    (some, own.to ds all)

exponent_digits : (s : Bool) (w p ds : List ℕ) (x : Number) → with_exponent s w p ds ≡ Some x → IsNumeral 10 ds
unfolding with_exponent
exponent_digits s w p ds x e = numeral_from_test ds (some_if (not (is_numeral ds)) _ x e).0

-- the exponent that stands after a letter
after_sign : (c : ℕ) (w p bs : List ℕ) (x : Number) → is_exponent_letter c ≡ true → exponent_after w p bs ≡ Some x → (k : ℤ) × WritesExponent (c ∷ bs) k
unfolding exponent_after
after_sign c w p [] x letter e = absurd (omega (arith, (exponent_digits false w p [] x e).0))
after_sign c w p (s ∷ ds) x letter e = by_sign (s == 45) (s == 43) refl refl e
  where
    by_sign : (m q : Bool) → (s == 45) ≡ m → (s == 43) ≡ q → (if m then with_exponent true w p ds else with_exponent false w p (drop (cond q 1 0) (s ∷ ds))) ≡ Some x → (k : ℤ) × WritesExponent (c ∷ s ∷ ds) k
    by_sign true q f g i = subst (λ t. (k : ℤ) × WritesExponent (c ∷ t ∷ ds) k) (sym (eqb-true s 45 f)) (_, power c (45 ∷ []) ds true (capital_from_letter c letter) minus (exponent_digits true w p ds x i))
    by_sign false true f g i = subst (λ t. (k : ℤ) × WritesExponent (c ∷ t ∷ ds) k) (sym (eqb-true s 43 g)) (_, power c (43 ∷ []) ds false (capital_from_letter c letter) plus (exponent_digits false w p ds x i))
    by_sign false false f g i = (_, power c [] (s ∷ ds) false (capital_from_letter c letter) no_sign (exponent_digits false w p (s ∷ ds) x i))

rest_written : (w p rest : List ℕ) (x : Number) → scaled_after w p rest ≡ Some x → (k : ℤ) × WritesExponent rest k
unfolding scaled_after
rest_written w p [] x e = (pos 0, none)
rest_written w p (c ∷ more) x e = let t = some_then (is_exponent_letter c) (exponent_after w p more) x e in after_sign c w p more x t.0 t.1

-- digits, and what follows them
whole_written : (ds rest : List ℕ) (x : Number) → IsNumeral 10 ds → scaled_after ds [] rest ≡ Some x → IsDecimalText (ds ++ rest)
whole_written ds rest x h e = let k = rest_written ds [] rest x e in (_, writes ds rest ds [] k.0 (plain ds h) k.1)

-- a point, digits after it, and what follows them
point_written : (ds bs : List ℕ) (x : Number) → AllDigits 10 ds → point_after ds bs ≡ Some x → IsDecimalText (ds ++ 46 ∷ bs)
unfolding point_after
point_written ds bs x all e =
    let n = prefix_len is_ascii_digit bs in
    let t = some_if (n == 0) (scaled_after ds (take n bs) (drop n bs)) x e in
    let k = rest_written ds (take n bs) (drop n bs) x t.1 in
    let some : 0 < length (take n bs) = rw (length-prefix_len is_ascii_digit bs) (grind (arith, nat_tests, t.0)) in
    let back : (ds ++ 46 ∷ take n bs) ++ drop n bs ≡ ds ++ 46 ∷ bs = append_assoc ds (46 ∷ take n bs) (drop n bs) ∙ ap (λ cs. ds ++ 46 ∷ cs) (take-append-drop n bs) in
    subst IsDecimalText back (_, writes (ds ++ 46 ∷ take n bs) (drop n bs) ds (take n bs) k.0 (point ds (take n bs) all (some, digits_before bs)) k.1)

pub some_from_test : (ds : List ℕ) → AllDigits 10 ds → (length ds == 0) ≡ false → IsNumeral 10 ds
some_from_test ds all h = (grind (arith, nat_tests), all)

digits_written : (ds rest : List ℕ) (x : Number) → AllDigits 10 ds → decimal_after ds rest ≡ Some x → IsDecimalText (ds ++ rest)
unfolding decimal_after
digits_written ds [] x all e =
    let t = some_if (length ds == 0) (decimal_value false ds []) x e in
    (_, writes ds [] ds [] (pos 0) (plain ds (some_from_test ds all t.0)) none)
digits_written ds (c ∷ more) x all e = by_point (c == 46) refl e
  where
    by_point : (b : Bool) → (c == 46) ≡ b → (if b then point_after ds more else (if length ds == 0 then None else scaled_after ds [] (c ∷ more))) ≡ Some x → IsDecimalText (ds ++ c ∷ more)
    by_point true f i = subst (λ t. IsDecimalText (ds ++ t ∷ more)) (sym (eqb-true c 46 f)) (point_written ds more x all i)
    by_point false f i =
        let t = some_if (length ds == 0) (scaled_after ds [] (c ∷ more)) x i in
        whole_written ds (c ∷ more) x (some_from_test ds all t.0) t.1

written : (text : List ℕ) (x : Number) → read_decimal text ≡ Some x → IsDecimalText text
unfolding read_decimal
written text x e =
    let n = prefix_len is_ascii_digit text in
    subst IsDecimalText (take-append-drop n text) (digits_written (take n text) (drop n text) x (digits_before text) e)

pub reads_what_is_written : ReadsWhatIsWritten
reads_what_is_written = record { value = value; written = written }
