-- The digits that a text begins with.
use Rattle.wi_fraction.proofs.Vocabulary.{◌≡◌, ℕ, suc, ◌+◌, Bool, true, false, ◌&&◌, cond, nat_eq, List, [], ◌∷◌, length, take, refl, is_ascii_digit, prefix_len, list_all, all_ascii_digits, AllDigits, digits_value, ◌∙◌, sym, ap, arith, nat_tests, IsNumeralModel, numerals_by_value, tells_all_ascii_digits}

pub own : IsNumeralModel (λ ds. all_ascii_digits ds ≡ true) (digits_value 10)
own = numerals_by_value _ tells_all_ascii_digits

-- two ways to say that bytes are digits
pub digits_same : (ds : List ℕ) → all_ascii_digits ds ≡ list_all is_ascii_digit ds
digits_same [] = refl
digits_same (d ∷ ds) = ap (λ b. is_ascii_digit d && b) (digits_same ds)

next_equal : (m n : ℕ) → nat_eq (1 + m) (suc n) ≡ nat_eq m n
next_equal m n = grind (arith, nat_tests)

next_apart : (n : ℕ) → nat_eq 0 (suc n) ≡ false
next_apart n = grind (arith, nat_tests)

-- a text is of digits where as many stand first as it has bytes
pub count_all : (bs : List ℕ) → nat_eq (prefix_len is_ascii_digit bs) (length bs) ≡ all_ascii_digits bs
count_all [] = refl
count_all (c ∷ cs) =
    elim (is_ascii_digit c) as (λ b. nat_eq (cond b (1 + prefix_len is_ascii_digit cs) 0) (length (c ∷ cs)) ≡ (b && all_ascii_digits cs)) [
      | true ↦ next_equal (prefix_len is_ascii_digit cs) (length cs) ∙ count_all cs
      | false ↦ next_apart (length cs)
    ]

before_by : (c : ℕ) (cs : List ℕ) (b : Bool) → is_ascii_digit c ≡ b → all_ascii_digits (take (prefix_len is_ascii_digit cs) cs) ≡ true → all_ascii_digits (take (cond b (1 + prefix_len is_ascii_digit cs) 0) (c ∷ cs)) ≡ true
before_by c cs true e h =
    let one : 1 + prefix_len is_ascii_digit cs ≡ suc (prefix_len is_ascii_digit cs) = omega arith in
    rw (one, e, h) refl
before_by c cs false e h = refl

all_before : (bs : List ℕ) → all_ascii_digits (take (prefix_len is_ascii_digit bs) bs) ≡ true
all_before [] = refl
all_before (c ∷ cs) = before_by c cs (is_ascii_digit c) refl (all_before cs)

-- the digits that a text begins with are digits
pub digits_before : (bs : List ℕ) → AllDigits 10 (take (prefix_len is_ascii_digit bs) bs)
digits_before bs = own.to _ (all_before bs)

pub digits_from_count : (bs : List ℕ) → nat_eq (prefix_len is_ascii_digit bs) (length bs) ≡ true → AllDigits 10 bs
digits_from_count bs h = own.to bs (sym (count_all bs) ∙ h)
