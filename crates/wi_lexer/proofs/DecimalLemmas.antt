-- The decimal found at the front is one, and no decimal there is longer.
use Rattle.wi_lexer.proofs.Words.{◌≡◌, ℕ, suc, ◌+◌, ◌<◌, ◌≤◌, Bool, true, false, cond, ◌&&◌, ◌==◌, ◌⊎◌, inl, inr, List, [], ◌∷◌, ◌++◌, length, take, drop, refl, sym, ap, ◌∙◌, subst, arith, append_assoc, length-append, length-drop, nat_lt, eqb-true, ltb-true, lt-ltb, take-append-drop, length-take-le, drop-append_seam, take-append-add, is_ascii_digit, AllDigits, IsNumeral, WritesDigits, plain, point, digits_before, digits_len, decimals_len, decimal_len}
use Rattle.wi_lexer.proofs.RunLemmas.{run_within, run_more, digits_all}

-- a point and digits stand at the front
pub record HasDecimals (bs : List ℕ) : Type 0 where
  pub tail : List ℕ
  pub is : bs ≡ 46 ∷ tail
  pub some : 0 < digits_len tail
  pub len : decimals_len bs ≡ 1 + digits_len tail

abbrev tested : (dot digit : Bool) → ℕ → ℕ
tested dot digit n = cond (dot && digit) (1 + n) 0

by_tests : (b : ℕ) (tail : List ℕ) (p d : Bool) → (b == 46) ≡ p → nat_lt 0 (digits_len tail) ≡ d → decimals_len (b ∷ tail) ≡ tested p d (digits_len tail) → (decimals_len (b ∷ tail) ≡ 0) ⊎ HasDecimals (b ∷ tail)
by_tests b tail false d e f h = inl h
by_tests b tail true false e f h = inl h
by_tests b tail true true e f h = inr record { tail = tail; is = ap (λ x. x ∷ tail) (eqb-true b 46 e); some = ltb-true 0 (digits_len tail) f; len = h }

pub decimals_cases : (bs : List ℕ) → (decimals_len bs ≡ 0) ⊎ HasDecimals bs
unfolding decimals_len
decimals_cases [] = inl refl
decimals_cases (b ∷ tail) = by_tests b tail _ _ refl refl refl

pub decimals_found : (tail : List ℕ) → 0 < digits_len tail → decimals_len (46 ∷ tail) ≡ 1 + digits_len tail
unfolding decimals_len
decimals_found tail some = ap (λ t. cond t (1 + digits_len tail) 0) (lt-ltb 0 (digits_len tail) some)

-- a decimal at the front is no longer than what is found there
pub decimal_more : (text ds es : List ℕ) → WritesDigits text ds es → (rest : List ℕ) → length text ≤ decimal_len (text ++ rest)
unfolding decimal_len
decimal_more text _ _ (plain ds h) rest = omega (arith, run_more is_ascii_digit ds rest (digits_all ds h.1))
decimal_more text _ _ (point ds es h i) rest =
    let front : (ds ++ 46 ∷ es) ++ rest ≡ ds ++ 46 ∷ (es ++ rest) = append_assoc ds (46 ∷ es) rest in
    let n = run_more is_ascii_digit ds (46 ∷ (es ++ rest)) (digits_all ds h) in
    let m = run_more is_ascii_digit es rest (digits_all es i.1) in
    let size = length-append ds (46 ∷ es) in
    let digits : digits_len (ds ++ 46 ∷ (es ++ rest)) ≡ length ds = omega (arith, n) in
    let after : drop (digits_len (ds ++ 46 ∷ (es ++ rest))) (ds ++ 46 ∷ (es ++ rest)) ≡ 46 ∷ (es ++ rest) = ap (λ i. drop i (ds ++ 46 ∷ (es ++ rest))) digits ∙ drop-append_seam ds (46 ∷ (es ++ rest)) in
    let found = decimals_found (es ++ rest) (omega (arith, m, i.0)) in
    subst (λ t. length (ds ++ 46 ∷ es) ≤ digits_len t + decimals_len (drop (digits_len t) t)) (sym front)
    (omega (arith, size, digits, m, ap decimals_len after ∙ found))

pub decimal_within : (bs : List ℕ) → decimal_len bs ≤ length bs
unfolding decimal_len
decimal_within bs = go (decimals_cases (drop (digits_len bs) bs))
  where
    go : (decimals_len (drop (digits_len bs) bs) ≡ 0) ⊎ HasDecimals (drop (digits_len bs) bs) → digits_len bs + decimals_len (drop (digits_len bs) bs) ≤ length bs
    go (inl e) = omega (arith, e, run_within is_ascii_digit bs)
    go (inr d) = omega (arith, d.len, run_within is_ascii_digit bs, run_within is_ascii_digit d.tail, ap length d.is, length-drop (digits_len bs) bs)

-- the digits at the front
pub digits_front : (bs : List ℕ) → 0 < digits_len bs → IsNumeral 10 (take (digits_len bs) bs)
digits_front bs some = (omega (arith, length-take-le (digits_len bs) bs (run_within is_ascii_digit bs), some), digits_before bs)

-- the text is some digits before a point and some after it
abbrev pub SomeDigits : List ℕ → Type 0
SomeDigits text = (ds : List ℕ) × (es : List ℕ) × WritesDigits text ds es

whole_front : (bs : List ℕ) → 0 < digits_len bs → SomeDigits (take (digits_len bs) bs)
whole_front bs some = let ds = take (digits_len bs) bs in (ds, [], plain ds (digits_front bs some))

decimal_front : (ds tail : List ℕ) → AllDigits 10 ds → 0 < digits_len tail → SomeDigits (take (length ds + (1 + digits_len tail)) (ds ++ 46 ∷ tail))
decimal_front ds tail all some =
    let m = digits_len tail in
    let next : 1 + m ≡ suc m = omega arith in
    let front : take (length ds + (1 + m)) (ds ++ 46 ∷ tail) ≡ ds ++ 46 ∷ take m tail =
    take-append-add ds (46 ∷ tail) (1 + m) ∙ ap (λ i. ds ++ take i (46 ∷ tail)) next in
    subst SomeDigits (sym front) (ds, take m tail, point ds (take m tail) all (digits_front tail some))

pub decimal_sound : (bs : List ℕ) → 0 < decimal_len bs → SomeDigits (take (decimal_len bs) bs)
unfolding decimal_len
decimal_sound bs h = go (decimals_cases (drop (digits_len bs) bs))
  where
    go : (decimals_len (drop (digits_len bs) bs) ≡ 0) ⊎ HasDecimals (drop (digits_len bs) bs) → SomeDigits (take (digits_len bs + decimals_len (drop (digits_len bs) bs)) bs)
    go (inl e) =
        let n : digits_len bs ≡ digits_len bs + decimals_len (drop (digits_len bs) bs) = omega (arith, e) in
        subst (λ i. SomeDigits (take i bs)) n (whole_front bs (omega (arith, n, h)))
    go (inr d) =
        let ds = take (digits_len bs) bs in
        let size : length ds ≡ digits_len bs = length-take-le (digits_len bs) bs (run_within is_ascii_digit bs) in
        let back : ds ++ 46 ∷ d.tail ≡ bs = ap (λ r. ds ++ r) (sym d.is) ∙ take-append-drop (digits_len bs) bs in
        let n : length ds + (1 + digits_len d.tail) ≡ digits_len bs + decimals_len (drop (digits_len bs) bs) = omega (arith, size, d.len) in
        let found = decimal_front ds d.tail (digits_before bs) d.some in
        subst (λ i. SomeDigits (take i bs)) n (subst (λ t. SomeDigits (take (length ds + (1 + digits_len d.tail)) t)) back found)

pub decimal_some : (text ds es : List ℕ) → WritesDigits text ds es → 0 < length text
decimal_some text _ _ (plain ds h) = h.0
decimal_some text _ _ (point ds es h i) = omega (arith, length-append ds (46 ∷ es))

-- ---- a decimal is found whole where nothing goes on with it

pub no_point : (b : ℕ) (rest : List ℕ) → (b == 46) ≡ false → decimals_len (b ∷ rest) ≡ 0
unfolding decimals_len
no_point b rest e = ap (λ t. cond (t && nat_lt 0 (digits_len rest)) (1 + digits_len rest) 0) e

digits_exact : (ds rest : List ℕ) → AllDigits 10 ds → digits_len rest ≡ 0 → digits_len (ds ++ rest) ≡ length ds
digits_exact ds rest all none = omega (arith, run_more is_ascii_digit ds rest (digits_all ds all), none)

-- the digits before, and the decimals of what follows them
after_digits : (ds tail : List ℕ) → digits_len (ds ++ tail) ≡ length ds → decimal_len (ds ++ tail) ≡ length ds + decimals_len tail
unfolding decimal_len
after_digits ds tail n =
    let after : drop (digits_len (ds ++ tail)) (ds ++ tail) ≡ tail = ap (λ i. drop i (ds ++ tail)) n ∙ drop-append_seam ds tail in
    omega (arith, n, ap decimals_len after)

pub decimal_exact : (text ds es : List ℕ) → WritesDigits text ds es → (rest : List ℕ) → digits_len rest ≡ 0 → decimals_len rest ≡ 0 → decimal_len (text ++ rest) ≡ length text
decimal_exact text _ _ (plain ds h) rest digits decimals = omega (arith, after_digits ds rest (digits_exact ds rest h.1 digits), decimals)
decimal_exact text _ _ (point ds es h i) rest digits decimals =
    let tail = es ++ rest in
    let front : (ds ++ 46 ∷ es) ++ rest ≡ ds ++ 46 ∷ tail = append_assoc ds (46 ∷ es) rest in
    let whole = after_digits ds (46 ∷ tail) (digits_exact ds (46 ∷ tail) h refl) in
    let es_len = digits_exact es rest i.1 digits in
    let found = decimals_found tail (omega (arith, es_len, i.0)) in
    omega (arith, ap decimal_len front, whole, found, es_len, length-append ds (46 ∷ es))
