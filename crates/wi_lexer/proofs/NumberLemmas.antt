-- The number found at the front is one, and no number there is longer.
use Rattle.wi_lexer.proofs.Words.{◌≡◌, ℕ, suc, ◌+◌, ◌<◌, ◌≤◌, ℤ, pos, Bool, true, false, cond, ◌||◌, ◌==◌, ◌⊎◌, inl, inr, List, [], ◌∷◌, ◌++◌, length, take, drop, refl, sym, ap, ◌∙◌, subst, arith, append_assoc, append-nil, length-append, length-drop, nat_lt, eqb-true, ltb-true, ltb-false, lt-ltb, nat_tests, take-add, drop-append_seam, is_ascii_digit, IsNumeral, WritesDigits, is_exponent_letter, WritesExponent, none as no_exponent, power, IsSign, no_sign, plus, minus, WritesNumber, writes, IsDecimalText, capital_from_letter, letter_from_capital, letter_no_digit, letter_no_point, digits_len, one_longer, is_sign_byte, decimals_len, decimal_len, signed_len, exponent_len, number_len}
use Rattle.std.specs.Prelude.{Option}
use Rattle.wi_fraction.specs.Number.{Number as Numbers}
use Rattle.wi_lexer.proofs.RunLemmas.{run_within, run_stops, run_more, digits_all, one_longer_some, one_longer_back, one_longer_within}
use Rattle.wi_lexer.proofs.DecimalLemmas.{digits_front, SomeDigits, decimal_some, decimal_more, decimal_within, decimal_sound, no_point, decimal_exact}

-- ---- exponents

digit_no_sign : (b : ℕ) → is_ascii_digit b ≡ true → is_sign_byte b ≡ false
digit_no_sign b h = grind (arith, nat_tests)

signed_within : (bs : List ℕ) → signed_len bs ≤ length bs
unfolding signed_len
signed_within [] = omega arith
signed_within (b ∷ bs) = go (is_sign_byte b)
  where
    go : (t : Bool) → cond t (one_longer (digits_len bs)) (digits_len (b ∷ bs)) ≤ length (b ∷ bs)
    go true = omega (arith, one_longer_within (digits_len bs), run_within is_ascii_digit bs)
    go false = run_within is_ascii_digit (b ∷ bs)

exponent_within : (bs : List ℕ) → exponent_len bs ≤ length bs
unfolding exponent_len
exponent_within [] = omega arith
exponent_within (b ∷ bs) = go (is_exponent_letter b)
  where
    go : (t : Bool) → cond t (one_longer (signed_len bs)) 0 ≤ length (b ∷ bs)
    go true = omega (arith, one_longer_within (signed_len bs), signed_within bs)
    go false = omega arith

abbrev SomeExponent : List ℕ → Type 0
SomeExponent text = (k : ℤ) × WritesExponent text k

signed_writes : (e s : ℕ) (ds : List ℕ) → is_exponent_letter e ≡ true → is_sign_byte s ≡ true → IsNumeral 10 ds → SomeExponent (e ∷ s ∷ ds)
signed_writes e s ds letter sign digits = by_plus (s == 43) refl sign
  where
    by_plus : (b : Bool) → (s == 43) ≡ b → (b || s == 45) ≡ true → SomeExponent (e ∷ s ∷ ds)
    by_plus true f g = subst (λ t. SomeExponent (e ∷ t ∷ ds)) (sym (eqb-true s 43 f)) (_, power e (43 ∷ []) ds false (capital_from_letter e letter) plus digits)
    by_plus false f g = subst (λ t. SomeExponent (e ∷ t ∷ ds)) (sym (eqb-true s 45 g)) (_, power e (45 ∷ []) ds true (capital_from_letter e letter) minus digits)

-- a letter and what is found after it
signed_sound : (e : ℕ) → is_exponent_letter e ≡ true → (bs : List ℕ) → 0 < signed_len bs → SomeExponent (e ∷ take (signed_len bs) bs)
unfolding signed_len
signed_sound e letter [] some = absurd (omega (arith, some))
signed_sound e letter (b ∷ bs) some = go (is_sign_byte b) refl some
  where
    found : ℕ → Type 0
    found n = SomeExponent (e ∷ take n (b ∷ bs))

    go : (t : Bool) → is_sign_byte b ≡ t → 0 < cond t (one_longer (digits_len bs)) (digits_len (b ∷ bs)) → found (cond t (one_longer (digits_len bs)) (digits_len (b ∷ bs)))
    go true is h =
        let digits = one_longer_back (digits_len bs) h in
        subst found (sym (one_longer_some (digits_len bs) digits)) (signed_writes e b (take (digits_len bs) bs) letter is (digits_front bs digits))
    go false is h = (_, power e [] (take (digits_len (b ∷ bs)) (b ∷ bs)) false (capital_from_letter e letter) no_sign (digits_front (b ∷ bs) h))

-- the exponent that is found, or none
exponent_sound : (bs : List ℕ) → SomeExponent (take (exponent_len bs) bs)
unfolding exponent_len
exponent_sound [] = (pos 0, no_exponent)
exponent_sound (b ∷ bs) = by_letter (is_exponent_letter b) refl
  where
    found : ℕ → Type 0
    found n = SomeExponent (take n (b ∷ bs))

    by_digits : is_exponent_letter b ≡ true → (t : Bool) → nat_lt 0 (signed_len bs) ≡ t → found (cond t (1 + signed_len bs) 0)
    by_digits letter true e =
        let next : 1 + signed_len bs ≡ suc (signed_len bs) = omega arith in
        subst found (sym next) (signed_sound b letter bs (ltb-true 0 (signed_len bs) e))
    by_digits letter false e = (pos 0, no_exponent)

    by_letter : (t : Bool) → is_exponent_letter b ≡ t → found (cond t (one_longer (signed_len bs)) 0)
    by_letter true letter = by_digits letter (nat_lt 0 (signed_len bs)) refl
    by_letter false letter = (pos 0, no_exponent)

-- what follows a letter is found with it
letter_found : (e : ℕ) (bs : List ℕ) → is_exponent_letter e ≡ true → 0 < signed_len bs → exponent_len (e ∷ bs) ≡ suc (signed_len bs)
unfolding exponent_len
letter_found e bs letter some = ap (λ t. cond t (one_longer (signed_len bs)) 0) letter ∙ one_longer_some (signed_len bs) some

sign_found : (s : ℕ) (bs : List ℕ) → is_sign_byte s ≡ true → 0 < digits_len bs → signed_len (s ∷ bs) ≡ suc (digits_len bs)
unfolding signed_len
sign_found s bs sign some = ap (λ t. cond t (one_longer (digits_len bs)) (digits_len (s ∷ bs))) sign ∙ one_longer_some (digits_len bs) some

-- digits are found where no sign stands before them
digits_found : (bs : List ℕ) → 0 < digits_len bs → signed_len bs ≡ digits_len bs
unfolding signed_len
digits_found [] some = absurd (omega (arith, some))
digits_found (b ∷ bs) some = go (is_ascii_digit b) refl some
  where
    go : (t : Bool) → is_ascii_digit b ≡ t → 0 < cond t (1 + digits_len bs) 0 → signed_len (b ∷ bs) ≡ digits_len (b ∷ bs)
    go true is h = ap (λ t. cond t (one_longer (digits_len bs)) (digits_len (b ∷ bs))) (digit_no_sign b is)
    go false is h = absurd (omega (arith, h))

unsigned_found : (e : ℕ) (ds rest : List ℕ) → is_exponent_letter e ≡ true → IsNumeral 10 ds → exponent_len (e ∷ ds ++ rest) ≡ length (e ∷ ds) + digits_len rest
unsigned_found e ds rest letter h =
    let m = run_more is_ascii_digit ds rest (digits_all ds h.1) in
    let digits = digits_found (ds ++ rest) (omega (arith, m, h.0)) in
    let found = letter_found e (ds ++ rest) letter (omega (arith, m, h.0, digits)) in
    omega (arith, m, digits, found)

signed_found : (e s : ℕ) (ds rest : List ℕ) → is_exponent_letter e ≡ true → is_sign_byte s ≡ true → IsNumeral 10 ds → exponent_len (e ∷ s ∷ ds ++ rest) ≡ length (e ∷ s ∷ ds) + digits_len rest
signed_found e s ds rest letter sign h =
    let m = run_more is_ascii_digit ds rest (digits_all ds h.1) in
    let digits = sign_found s (ds ++ rest) sign (omega (arith, m, h.0)) in
    let found = letter_found e (s ∷ ds ++ rest) letter (omega (arith, digits)) in
    omega (arith, m, digits, found)

sign_then_digits : (sign : List ℕ) (s : Bool) → IsSign sign s → (e : ℕ) (ds rest : List ℕ) → is_exponent_letter e ≡ true → IsNumeral 10 ds → exponent_len ((e ∷ sign ++ ds) ++ rest) ≡ length (e ∷ sign ++ ds) + digits_len rest
sign_then_digits sign s no_sign e ds rest letter h = unsigned_found e ds rest letter h
sign_then_digits sign s plus e ds rest letter h = signed_found e 43 ds rest letter refl h
sign_then_digits sign s minus e ds rest letter h = signed_found e 45 ds rest letter refl h

-- An exponent that begins with a letter is found with the digits that follow it.
pub record HasLetter (text : List ℕ) : Type 0 where
  pub letter : ℕ
  pub after : List ℕ
  pub is : text ≡ letter ∷ after
  pub test : is_exponent_letter letter ≡ true
  pub found : (rest : List ℕ) → exponent_len (text ++ rest) ≡ length text + digits_len rest

has_letter : (text : List ℕ) (k : ℤ) → WritesExponent text k → (text ≡ []) ⊎ HasLetter text
has_letter text k no_exponent = inl refl
has_letter text k (power e sign ds s letter is h) =
    let test = letter_from_capital e letter in
    inr record { letter = e; after = sign ++ ds; is = refl; test = test; found = λ rest. sign_then_digits sign s is e ds rest test h }

-- ---- numbers

-- A number is digits alone, or digits and an exponent that begins with a letter.
pub record ByExponent (P : List ℕ → Type 0) : Type 0 where
  pub alone : (text ds es : List ℕ) → WritesDigits text ds es → P text
  pub scaled : (text ds es : List ℕ) → WritesDigits text ds es → (exponent : List ℕ) (k : ℤ) → WritesExponent exponent k → HasLetter exponent → P (text ++ exponent)

with_exponent : (P : List ℕ → Type 0) → ByExponent P → (text ds es : List ℕ) → WritesDigits text ds es → (exponent : List ℕ) (k : ℤ) → WritesExponent exponent k → (exponent ≡ []) ⊎ HasLetter exponent → P (text ++ exponent)
with_exponent P p text ds es d exponent k e (inl empty) = subst P (sym (ap (λ x. text ++ x) empty ∙ append-nil text)) (p.alone text ds es d)
with_exponent P p text ds es d exponent k e (inr letter) = p.scaled text ds es d exponent k e letter

by_exponent : (P : List ℕ → Type 0) → ByExponent P → (text : List ℕ) (o : Option Numbers) → WritesNumber text o → P text
by_exponent P p text _ (writes front exponent ds es k d e) = with_exponent P p front ds es d exponent k e (has_letter exponent k e)

pub number_cases : (P : List ℕ → Type 0) → ByExponent P → (text : List ℕ) → IsDecimalText text → P text
number_cases P p text w = by_exponent P p text w.0 w.1

-- digits alone are a number
pub digits_alone : (text : List ℕ) → SomeDigits text → IsDecimalText text
digits_alone text d = subst IsDecimalText (append-nil text) (_, writes text [] d.0 d.1 (pos 0) d.2 no_exponent)

pub number_some : (text : List ℕ) → IsDecimalText text → 0 < length text
number_some = number_cases (λ text. 0 < length text) record {
  alone = decimal_some;
  scaled = λ text ds es d exponent k e letter. omega (arith, decimal_some text ds es d, length-append text exponent);
}

-- a decimal that is found, and the exponent after it
decimal_first : (bs : List ℕ) → 0 < decimal_len bs → number_len bs ≡ decimal_len bs + exponent_len (drop (decimal_len bs) bs)
unfolding number_len
decimal_first bs some = ap (λ t. cond t (decimal_len bs + exponent_len (drop (decimal_len bs) bs)) 0) (lt-ltb 0 (decimal_len bs) some)

pub decimal_none : (bs : List ℕ) → decimal_len bs ≡ 0 → number_len bs ≡ 0
unfolding number_len
decimal_none bs none = ap (λ n. cond (nat_lt 0 n) (n + exponent_len (drop n bs)) 0) none

-- the decimal before an exponent, the exponent, and the digits that follow it
scaled_len : (text ds es : List ℕ) → WritesDigits text ds es → (exponent : List ℕ) → HasLetter exponent → (rest : List ℕ) → number_len ((text ++ exponent) ++ rest) ≡ length (text ++ exponent) + digits_len rest
scaled_len text ds es d exponent begins rest =
    let bs = text ++ (exponent ++ rest) in
    let tail : exponent ++ rest ≡ begins.letter ∷ (begins.after ++ rest) = ap (λ x. x ++ rest) begins.is in
    let digits = ap digits_len tail ∙ run_stops is_ascii_digit begins.letter (begins.after ++ rest) (letter_no_digit begins.letter begins.test) in
    let decimals = ap decimals_len tail ∙ no_point begins.letter (begins.after ++ rest) (letter_no_point begins.letter begins.test) in
    let exact = decimal_exact text ds es d (exponent ++ rest) digits decimals in
    let first = decimal_first bs (omega (arith, exact, decimal_some text ds es d)) in
    let after : drop (decimal_len bs) bs ≡ exponent ++ rest = ap (λ i. drop i bs) exact ∙ drop-append_seam text (exponent ++ rest) in
    omega (arith, ap number_len (append_assoc text exponent rest), first, exact, ap exponent_len after, begins.found rest, length-append text exponent)

decimal_covered : (text ds es : List ℕ) → WritesDigits text ds es → (rest : List ℕ) → length text ≤ number_len (text ++ rest)
decimal_covered text ds es d rest =
    let more = decimal_more text ds es d rest in
    omega (arith, more, decimal_first (text ++ rest) (omega (arith, more, decimal_some text ds es d)))

-- a number at the front is no longer than what is found there
pub number_more : (text : List ℕ) → IsDecimalText text → (rest : List ℕ) → length text ≤ number_len (text ++ rest)
number_more = number_cases (λ text. (rest : List ℕ) → length text ≤ number_len (text ++ rest)) record {
  alone = decimal_covered;
  scaled = λ text ds es d exponent k e letter rest. omega (arith, scaled_len text ds es d exponent letter rest);
}

-- What goes on with no number.
pub record EndsNumber (rest : List ℕ) : Type 0 where
  pub digits : digits_len rest ≡ 0
  pub decimals : decimals_len rest ≡ 0
  pub exponent : exponent_len rest ≡ 0

alone_exact : (text ds es : List ℕ) → WritesDigits text ds es → (rest : List ℕ) → EndsNumber rest → number_len (text ++ rest) ≡ length text
alone_exact text ds es d rest stops =
    let exact = decimal_exact text ds es d rest stops.digits stops.decimals in
    let first = decimal_first (text ++ rest) (omega (arith, exact, decimal_some text ds es d)) in
    let after : drop (decimal_len (text ++ rest)) (text ++ rest) ≡ rest = ap (λ i. drop i (text ++ rest)) exact ∙ drop-append_seam text rest in
    omega (arith, first, exact, ap exponent_len after, stops.exponent)

-- a number is found whole where nothing goes on with it
pub number_exact : (text : List ℕ) → IsDecimalText text → (rest : List ℕ) → EndsNumber rest → number_len (text ++ rest) ≡ length text
number_exact = number_cases (λ text. (rest : List ℕ) → EndsNumber rest → number_len (text ++ rest) ≡ length text) record {
  alone = alone_exact;
  scaled = λ text ds es d exponent k e letter rest stops. omega (arith, scaled_len text ds es d exponent letter rest, stops.digits);
}

-- the cases in which a number is found
number_by : (P : ℕ → Type 0) (bs : List ℕ) → (decimal_len bs ≡ 0 → P 0) → (0 < decimal_len bs → P (decimal_len bs + exponent_len (drop (decimal_len bs) bs))) → P (number_len bs)
unfolding number_len
number_by P bs none some = go (nat_lt 0 (decimal_len bs)) refl
  where
    go : (t : Bool) → nat_lt 0 (decimal_len bs) ≡ t → P (cond t (decimal_len bs + exponent_len (drop (decimal_len bs) bs)) 0)
    go true e = some (ltb-true 0 (decimal_len bs) e)
    go false e = none (omega (arith, ltb-false 0 (decimal_len bs) e))

pub number_within : (bs : List ℕ) → number_len bs ≤ length bs
number_within bs =
    number_by (λ n. n ≤ length bs) bs (λ none. omega arith)
    (λ some. omega (arith, decimal_within bs, exponent_within (drop (decimal_len bs) bs), length-drop (decimal_len bs) bs))

-- a decimal and the exponent after it, if one is found
decimal_then : (bs : List ℕ) → 0 < decimal_len bs → IsDecimalText (take (decimal_len bs + exponent_len (drop (decimal_len bs) bs)) bs)
decimal_then bs some =
    let n = decimal_len bs in
    let m = exponent_len (drop n bs) in
    let d = decimal_sound bs some in
    let e = exponent_sound (drop n bs) in
    subst IsDecimalText (sym (take-add n m bs)) (_, writes (take n bs) (take m (drop n bs)) d.0 d.1 e.0 d.2 e.1)

pub number_sound : (bs : List ℕ) → 0 < number_len bs → IsDecimalText (take (number_len bs) bs)
number_sound bs = number_by (λ n. 0 < n → IsDecimalText (take n bs)) bs (λ none some. absurd (omega (arith, some))) (λ some _. decimal_then bs some)
