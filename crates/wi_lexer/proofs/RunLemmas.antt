-- Runs of bytes of one class.
use Rattle.wi_lexer.proofs.Words.{◌≡◌, ℕ, suc, ◌+◌, ◌<◌, ◌≤◌, Bool, true, false, cond, ◌⊎◌, inl, inr, List, [], ◌∷◌, ◌++◌, length, take, refl, sym, ap, ◌∙◌, subst, arith, nat_lt, cases_Bool, ltb-true, lt-ltb, and_parts, prefix_len, list_all, prefix_len-le-length, is_ascii_digit, AllDigits, IsNumeral, own, digits_same, IsRunOf, one_longer, WrittenCell, IsCell, is_ascii_alphabetic, slice_index}

pub run_within : (class : ℕ → Bool) (bs : List ℕ) → prefix_len class bs ≤ length bs
run_within class bs = prefix_len-le-length class bs

-- no run begins with a byte of another class
pub run_stops : (class : ℕ → Bool) (b : ℕ) (bs : List ℕ) → class b ≡ false → prefix_len class (b ∷ bs) ≡ 0
run_stops class b bs e = ap (λ t. cond t (1 + prefix_len class bs) 0) e

-- bytes of the class lengthen the run that follows them
pub run_more : (class : ℕ → Bool) (xs bs : List ℕ) → list_all class xs ≡ true → prefix_len class (xs ++ bs) ≡ length xs + prefix_len class bs
run_more class [] bs e = omega arith
run_more class (x ∷ xs) bs e =
    let p = and_parts (class x) (list_all class xs) e in
    let more = run_more class xs bs p.1 in
    omega (arith, more, ap (λ t. cond t (1 + prefix_len class (xs ++ bs)) 0) p.0)

-- the bytes of a run are of the class
pub run_all : (class : ℕ → Bool) (bs : List ℕ) → list_all class (take (prefix_len class bs) bs) ≡ true
run_all class [] = refl
run_all class (b ∷ bs) = go (run_all class bs) (cases_Bool (class b))
  where
    more : list_all class (take (prefix_len class bs) bs) ≡ true → class b ≡ true → list_all class (take (1 + prefix_len class bs) (b ∷ bs)) ≡ true
    more ih e =
        let next : 1 + prefix_len class bs ≡ suc (prefix_len class bs) = omega arith in
        subst (λ n. list_all class (take n (b ∷ bs)) ≡ true) (sym next) (cc (e, ih))

    go : list_all class (take (prefix_len class bs) bs) ≡ true → (class b ≡ true) ⊎ (class b ≡ false) → list_all class (take (prefix_len class (b ∷ bs)) (b ∷ bs)) ≡ true
    go ih (inl e) = subst (λ t. list_all class (take (cond t (1 + prefix_len class bs) 0) (b ∷ bs)) ≡ true) (sym e) (more ih e)
    go ih (inr e) = subst (λ t. list_all class (take (cond t (1 + prefix_len class bs) 0) (b ∷ bs)) ≡ true) (sym e) refl

pub all_append : (class : ℕ → Bool) (xs ys : List ℕ) → list_all class xs ≡ true → list_all class ys ≡ true → list_all class (xs ++ ys) ≡ true
all_append class [] ys h k = k
all_append class (x ∷ xs) ys h k =
    let p = and_parts (class x) (list_all class xs) h in
    cc (p.0, all_append class xs ys p.1 k)

-- a run of a class is one of a wider class
pub all_wider : (class wider : ℕ → Bool) → ((b : ℕ) → class b ≡ true → wider b ≡ true) → (xs : List ℕ) → list_all class xs ≡ true → list_all wider xs ≡ true
all_wider class wider each [] h = refl
all_wider class wider each (x ∷ xs) h =
    let p = and_parts (class x) (list_all class xs) h in
    cc (each x p.0, all_wider class wider each xs p.1)

-- ---- digits

pub digits_all : (ds : List ℕ) → AllDigits 10 ds → list_all is_ascii_digit ds ≡ true
digits_all ds h = sym (digits_same ds) ∙ own.from ds h

pub digits_run : (ds : List ℕ) → IsNumeral 10 ds → IsRunOf is_ascii_digit ds
digits_run ds h = record { some = h.0; all = digits_all ds h.1 }

-- ---- the letters and the digits of a cell

pub letters_run : (c : WrittenCell) → IsCell c → IsRunOf is_ascii_alphabetic c.letters
letters_run c h = record { some = h.some; all = h.letters }

pub row_run : (c : WrittenCell) → IsCell c → IsRunOf is_ascii_digit c.digits
row_run c h = digits_run c.digits h.digits

pub cell_from_runs : (c : WrittenCell) → IsRunOf is_ascii_alphabetic c.letters → IsRunOf is_ascii_digit c.digits → 48 < slice_index c.digits 0 → IsCell c
cell_from_runs c letters row first =
    record { some = letters.some; letters = letters.all; digits = (row.some, own.to c.digits (digits_same c.digits ∙ row.all)); first = first }

-- ---- a length and one byte before it

pub one_longer_some : (n : ℕ) → 0 < n → one_longer n ≡ suc n
one_longer_some n h = ap (λ t. cond t (1 + n) 0) (lt-ltb 0 n h) ∙ omega arith

pub one_longer_back : (n : ℕ) → 0 < one_longer n → 0 < n
one_longer_back n h = go (nat_lt 0 n) refl h
  where
    go : (t : Bool) → nat_lt 0 n ≡ t → 0 < cond t (1 + n) 0 → 0 < n
    go true e f = ltb-true 0 n e
    go false e f = absurd (omega (arith, f))

pub one_longer_within : (n : ℕ) → one_longer n ≤ suc n
one_longer_within n = go (nat_lt 0 n)
  where
    go : (t : Bool) → cond t (1 + n) 0 ≤ suc n
    go true = omega arith
    go false = omega arith
