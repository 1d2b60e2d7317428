-- A text is read as the fraction that it spells, and what is read spells one.
use Rattle.wi_fraction.proofs.Vocabulary.{◌≡◌, ℕ, ◌<◌, ◌≤◌, ℤ, Bool, true, false, cond, not, ◌==◌, ◌&&◌, nat_lt, nat_le, List, [], ◌∷◌, ◌++◌, length, take, drop, slice_index, Some, None, refl, is_ascii_digit, prefix_len, IsNumeral, digits_value, sym, ap, ◌∙◌, subst, arith, eqb-true, nat_tests, append-nil, take-append-drop, length-prefix_len, ReadsWhatIsSpelled, Number, number_of, with_minus, max_size, SpellsSize, WritesDigits, plain, point, pointed, slash, SpellsFraction, spells, IsSign, no_sign, plus, minus, IsFractionText, is_numeral, decimal_value, read_quotient, read_after, read_size, read}
use Rattle.std.specs.Prelude.{if◌then◌else◌}
use Rattle.wi_fraction.proofs.ReadsBack.{first_digit, is_numeral-true, read_size_scanned, read_signed}
use Rattle.wi_fraction.proofs.Scanning.{digits_before}
use Rattle.wi_fraction.proofs.Written.{some_if, some_then, numeral_from_test}

-- ---- what is spelled is read

quotient_value : (s : Bool) (n d : ℕ) → 0 < d → n ≤ max_size → d ≤ max_size → read_quotient s n d ≡ number_of (with_minus s n) d
quotient_value s n d dp nm dm =
    let t : (nat_lt 0 d && nat_le n max_size && nat_le d max_size) ≡ true = grind (arith, nat_tests) in
    rw t refl

digits_read : (s : Bool) (text ds es : List ℕ) → WritesDigits text ds es → IsNumeral 10 ds → read_size s text ≡ decimal_value s ds es
unfolding read_after
digits_read s text _ _ (plain ds h) _ = ap (read_size s) (sym (append-nil ds)) ∙ read_size_scanned s ds [] h refl
digits_read s text _ _ (point ds es _ i) h = read_size_scanned s ds (46 ∷ es) h refl ∙ rw (is_numeral-true es i) refl

size_value : (s : Bool) (text : List ℕ) (n d : ℕ) → SpellsSize text n d → read_size s text ≡ number_of (with_minus s n) d
unfolding read_after
size_value s text n d (pointed front ds es w h) = digits_read s front ds es w h
size_value s text n d (slash ds es h i some above below) = read_size_scanned s ds (47 ∷ es) h refl ∙ rw (is_numeral-true es i) (quotient_value s (digits_value 10 ds) (digits_value 10 es) some above below)

digits_first : (text ds es : List ℕ) → WritesDigits text ds es → IsNumeral 10 ds → is_ascii_digit (slice_index text 0) ≡ true
digits_first text _ _ (plain ds h) _ = rw (append-nil ds) at (first_digit ds [] h)
digits_first text _ _ (point ds es _ i) h = first_digit ds (46 ∷ es) h

size_digit : (text : List ℕ) (n d : ℕ) → SpellsSize text n d → is_ascii_digit (slice_index text 0) ≡ true
size_digit text n d (pointed front ds es w h) = digits_first front ds es w h
size_digit text n d (slash ds es h i some above below) = first_digit ds (47 ∷ es) h

signed_value : (sign : List ℕ) (s : Bool) → IsSign sign s → (size : List ℕ) (m k : ℕ) → SpellsSize size m k → read (sign ++ size) ≡ number_of (with_minus s m) k
unfolding read
signed_value sign s no_sign size m k h = read_signed false size (size_digit size m k h) ∙ size_value false size m k h
signed_value sign s plus size m k h = size_value false size m k h
signed_value sign s minus size m k h = size_value true size m k h

value : (text : List ℕ) (n : ℤ) (d : ℕ) → SpellsFraction text n d → read text ≡ number_of n d
value text n d (spells sign size s m k is h) = signed_value sign s is size m k h

-- ---- what is read is spelled

abbrev SizeIsSpelled : List ℕ → Type 0
SizeIsSpelled text = (n : ℕ) × (d : ℕ) × SpellsSize text n d

quotient_spelled : (s : Bool) (ds es : List ℕ) (x : Number) → IsNumeral 10 ds → IsNumeral 10 es → read_quotient s (digits_value 10 ds) (digits_value 10 es) ≡ Some x → SizeIsSpelled (ds ++ 47 ∷ es)
quotient_spelled s ds es x h i e =
    let n = digits_value 10 ds in
    let d = digits_value 10 es in
    let t = (some_then (nat_lt 0 d && nat_le n max_size && nat_le d max_size) (number_of (with_minus s n) d) x e).0 in
    let some : 0 < d = grind (arith, nat_tests, t) in
    let above : n ≤ max_size = grind (arith, nat_tests, t) in
    let below : d ≤ max_size = grind (arith, nat_tests, t) in
    (n, d, slash ds es h i some above below)

rest_spelled : (s : Bool) (ds rest : List ℕ) (x : Number) → IsNumeral 10 ds → read_after s ds rest ≡ Some x → SizeIsSpelled (ds ++ rest)
unfolding read_after
rest_spelled s ds [] x h e = subst SizeIsSpelled (sym (append-nil ds)) (_, _, pointed ds ds [] (plain ds h) h)
rest_spelled s ds (c ∷ es) x h e =
    let t = some_if (not (is_numeral es)) _ x e in
    by_mark (c == 46) (c == 47) refl refl (numeral_from_test es t.0) t.1
  where
    by_mark : (p q : Bool) → (c == 46) ≡ p → (c == 47) ≡ q → IsNumeral 10 es → (if p then decimal_value s ds es else (if q then read_quotient s (digits_value 10 ds) (digits_value 10 es) else None)) ≡ Some x → SizeIsSpelled (ds ++ c ∷ es)
    by_mark true q f g i k = subst (λ b. SizeIsSpelled (ds ++ b ∷ es)) (sym (eqb-true c 46 f)) (_, _, pointed (ds ++ 46 ∷ es) ds es (point ds es h.1 i) h)
    by_mark false true f g i k = subst (λ b. SizeIsSpelled (ds ++ b ∷ es)) (sym (eqb-true c 47 g)) (quotient_spelled s ds es x h i k)
    by_mark false false f g i k = cc

size_spelled : (s : Bool) (text : List ℕ) (x : Number) → read_size s text ≡ Some x → SizeIsSpelled text
unfolding read_size
size_spelled s text x e =
    let k = prefix_len is_ascii_digit text in
    let t = some_if (k == 0) (read_after s (take k text) (drop k text)) x e in
    let some : 0 < length (take k text) = rw (length-prefix_len is_ascii_digit text) (grind (arith, nat_tests, t.0)) in
    subst SizeIsSpelled (take-append-drop k text) (rest_spelled s (take k text) (drop k text) x (some, digits_before text) t.1)

spelled : (text : List ℕ) (x : Number) → read text ≡ Some x → IsFractionText text
unfolding read
spelled [] x e = let t = size_spelled false [] x e in (_, _, spells [] [] false t.0 t.1 no_sign t.2)
spelled (c ∷ cs) x e = by_sign (c == 45) (c == 43) refl refl e
  where
    by_sign : (m p : Bool) → (c == 45) ≡ m → (c == 43) ≡ p → (if m then read_size true cs else read_size false (drop (cond p 1 0) (c ∷ cs))) ≡ Some x → IsFractionText (c ∷ cs)
    by_sign true p f g i = let t = size_spelled true cs x i in subst (λ b. IsFractionText (b ∷ cs)) (sym (eqb-true c 45 f)) (_, _, spells (45 ∷ []) cs true t.0 t.1 minus t.2)
    by_sign false true f g i = let t = size_spelled false cs x i in subst (λ b. IsFractionText (b ∷ cs)) (sym (eqb-true c 43 g)) (_, _, spells (43 ∷ []) cs false t.0 t.1 plus t.2)
    by_sign false false f g i = let t = size_spelled false (c ∷ cs) x i in (_, _, spells [] (c ∷ cs) false t.0 t.1 no_sign t.2)

pub reads_what_is_spelled : ReadsWhatIsSpelled
reads_what_is_spelled = record { value = value; spelled = spelled }
