-- Digits in two pieces.
use Rattle.wi_fraction.proofs.Vocabulary.{◌≡◌, ℕ, zero, suc, ◌+◌, ◌-◌, ◌<◌, ◌≤◌, List, [], ◌∷◌, ◌++◌, length, take, drop, IsInRange, AllDigits, sym, ap, ◌∙◌, subst, get_or, digit_at, get_or-append, get_or-append_right, length-append, take-append-drop, append_assoc}

pub digits_append : (ds es : List ℕ) → AllDigits 10 ds → AllDigits 10 es → AllDigits 10 (ds ++ es)
digits_append [] es h k = k
digits_append (c ∷ cs) es h k = (h.0, digits_append cs es h.1 k)

pub digits_take : (i : ℕ) (ds : List ℕ) → AllDigits 10 ds → AllDigits 10 (take i ds)
digits_take zero ds h = tt
digits_take (suc i) [] h = tt
digits_take (suc i) (c ∷ ds) h = (h.0, digits_take i ds h.1)

pub pieces_length : (ds es all : List ℕ) → ds ++ es ≡ all → length ds + length es ≡ length all
pieces_length ds es all same = sym (length-append ds es) ∙ ap (λ (xs : List ℕ). length xs) same

-- which digit of the whole one of a piece is
pub digit_left : (ds es all : List ℕ) (i : ℕ) → ds ++ es ≡ all → i < length ds → get_or all i 0 ≡ get_or ds i 0
digit_left ds es all i same h = ap (λ (xs : List ℕ). get_or xs i 0) (sym same) ∙ get_or-append ds es 0 i h

pub digit_right : (ds es all : List ℕ) (i : ℕ) → ds ++ es ≡ all → length ds ≤ i → get_or all i 0 ≡ get_or es (i - length ds) 0
digit_right ds es all i same h = ap (λ (xs : List ℕ). get_or xs i 0) (sym same) ∙ get_or-append_right ds es i 0 h

pub range_left : (ds es all : List ℕ) (i : ℕ) → ds ++ es ≡ all → AllDigits 10 all → i < length all → i < length ds → IsInRange 48 57 (get_or ds i 0)
range_left ds es all i same digits inside h = subst (λ c. IsInRange 48 57 c) (digit_left ds es all i same h) (digit_at all i digits inside)

pub range_right : (ds es all : List ℕ) (i : ℕ) → ds ++ es ≡ all → AllDigits 10 all → i < length all → length ds ≤ i → IsInRange 48 57 (get_or es (i - length ds) 0)
range_right ds es all i same digits inside h = subst (λ c. IsInRange 48 57 c) (digit_right ds es all i same h) (digit_at all i digits inside)

-- a piece cut in two and put together with what stands before it
pub cut_after : (ds es : List ℕ) (i : ℕ) → ds ++ take i es ++ drop i es ≡ ds ++ es
cut_after ds es i = append_assoc ds (take i es) (drop i es) ∙ ap (λ xs. ds ++ xs) (take-append-drop i es)

-- the same with what stands after it
pub cut_before : (ds es : List ℕ) (i : ℕ) → take i ds ++ (drop i ds ++ es) ≡ ds ++ es
cut_before ds es i = sym (append_assoc (take i ds) (drop i ds) es) ∙ ap (λ xs. xs ++ es) (take-append-drop i ds)
