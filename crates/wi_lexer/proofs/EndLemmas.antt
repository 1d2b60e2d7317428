-- A token stays one where what follows doesn't go on with it.
use Rattle.wi_lexer.proofs.Words.{◌≡◌, ℕ, ◌<◌, Bool, true, false, cond, ◌||◌, ◌==◌, List, [], ◌∷◌, ◌++◌, length, drop, refl, sym, ap, ◌∙◌, subst, arith, slice_index, nat_tests, list_all, prefix_len, is_ascii_digit, and_parts, not-true, WritesDigits, plain, point, is_exponent_letter, IsDecimalText, quoted, Kind, Number, Reference, Rectangle, Name, Text, Mark, NotEqual, Less, Greater, is_blank, IsRunOf, one_longer, decimals_len, decimal_len, signed_len, exponent_len, number_len, WrittenCell, IsCell, cell_text, IsReference, one_cell, IsRectangle, two_cells, IsName, is_name_start, is_name_part, IsText, of_content, quoted_len, text_len, mark_text, two_byte_mark, one_byte_mark, mark_at, IsToken, after_blanks, token_at, then_tokens, tokens_ahead, tokens, ends}
use Rattle.wi_lexer.specs.declared.token.Mark as mark
use Rattle.wi_lexer.proofs.RunLemmas.{run_stops, digits_all, digits_run}
use Rattle.wi_lexer.proofs.DecimalLemmas.{decimal_some, no_point}
use Rattle.wi_lexer.proofs.NumberLemmas.{number_cases, number_some, EndsNumber, number_exact}
use Rattle.wi_lexer.proofs.FrontLemmas.{first_stays}
use Rattle.wi_lexer.proofs.BracketLemmas.{bracketed}
use Rattle.wi_lexer.proofs.ReferenceLemmas.{reference_complete}
use Rattle.wi_lexer.proofs.RectangleLemmas.{beside, rectangle_is, rectangle_complete, no_reference_len}
use Rattle.wi_lexer.proofs.NameLemmas.{name_some, name_exact}
use Rattle.wi_lexer.proofs.QuoteLemmas.{inside_of, text_exact}
use Rattle.wi_lexer.proofs.TokenLemmas.{found_token, MarkFound, number_found, reference_found, rectangle_found, name_found, text_found, mark_found, token_some}
use Rattle.wi_lexer.proofs.CallerLemmas.{tokens_are, found_ahead}

-- ---- the first byte of a token

-- a digit or a point
abbrev pub is_number_start : ℕ → Bool
is_number_start b = is_ascii_digit b || b == 46

run_start : (class : ℕ → Bool) (text : List ℕ) → IsRunOf class text → class (slice_index text 0) ≡ true
run_start class [] run = absurd (omega (arith, run.some))
run_start class (b ∷ text) run = (and_parts (class b) (list_all class text) run.all).0

digit_starts : (b : ℕ) → is_ascii_digit b ≡ true → is_number_start b ≡ true
digit_starts b h = grind (arith, nat_tests)

decimal_start : (text ds es : List ℕ) → WritesDigits text ds es → is_number_start (slice_index text 0) ≡ true
decimal_start text _ _ (plain ds h) = digit_starts (slice_index ds 0) (run_start is_ascii_digit ds (digits_run ds h))
decimal_start text _ _ (point [] es h i) = refl
decimal_start text _ _ (point (d ∷ ds) es h i) = digit_starts d (and_parts (is_ascii_digit d) (list_all is_ascii_digit ds) (digits_all (d ∷ ds) h)).0

pub number_start : (text : List ℕ) → IsDecimalText text → is_number_start (slice_index text 0) ≡ true
number_start = number_cases (λ text. is_number_start (slice_index text 0) ≡ true) record {
  alone = decimal_start;
  scaled = λ text ds es d exponent k e letter. ap is_number_start (first_stays text exponent (decimal_some text ds es d)) ∙ decimal_start text ds es d;
}

number_no_blank : (b : ℕ) → is_number_start b ≡ true → is_blank b ≡ false
number_no_blank b h = grind (arith, nat_tests)

name_no_blank : (b : ℕ) → is_name_start b ≡ true → is_blank b ≡ false
name_no_blank b h = grind (arith, nat_tests)

reference_no_blank : (text : List ℕ) → IsReference text → is_blank (slice_index text 0) ≡ false
reference_no_blank text (one_cell c h) = refl

rectangle_no_blank : (text : List ℕ) → IsRectangle text → is_blank (slice_index text 0) ≡ false
rectangle_no_blank text (two_cells c d h k) = refl

text_no_blank : (text : List ℕ) → IsText text → is_blank (slice_index text 0) ≡ false
text_no_blank text (of_content content) = refl

mark_no_blank : (m : mark.Mark) → is_blank (slice_index (mark_text m) 0) ≡ false
mark_no_blank NotEqual = refl
mark_no_blank m = refl

-- no token begins with white space
pub token_no_blank : (k : Kind) (text : List ℕ) → IsToken k text → is_blank (slice_index text 0) ≡ false
token_no_blank Number text t = number_no_blank (slice_index text 0) (number_start text t)
token_no_blank Reference text t = reference_no_blank text t
token_no_blank Rectangle text t = rectangle_no_blank text t
token_no_blank Name text t = name_no_blank (slice_index text 0) t.start
token_no_blank Text text t = text_no_blank text t
token_no_blank (Mark m) text t = subst (λ x. is_blank (slice_index x 0) ≡ false) (sym t) (mark_no_blank m)

-- before a token that begins with no blank there are none
pub no_blanks : (text rest : List ℕ) → 0 < length text → is_blank (slice_index text 0) ≡ false → after_blanks (text ++ rest) ≡ text ++ rest
no_blanks [] rest some first = absurd (omega (arith, some))
no_blanks (b ∷ text) rest some first = ap (λ i. drop i (b ∷ text ++ rest)) (run_stops is_blank b (text ++ rest) first)

-- ---- a token is found whole

abbrev FoundWhole : Kind → List ℕ → List ℕ → Type 0
FoundWhole k text rest = token_at (text ++ rest) ≡ found_token k (length text)

no_digit_on : (b : ℕ) → ends Number (b ∷ []) ≡ true → is_ascii_digit b ≡ false
no_digit_on b h = grind (arith, nat_tests)

no_point_on : (b : ℕ) → ends Number (b ∷ []) ≡ true → (b == 46) ≡ false
no_point_on b h = grind (arith, nat_tests)

no_letter_on : (b : ℕ) → ends Number (b ∷ []) ≡ true → is_exponent_letter b ≡ false
no_letter_on b h = grind (arith, nat_tests)

ends_number : (rest : List ℕ) → ends Number rest ≡ true → EndsNumber rest
unfolding decimals_len exponent_len
ends_number [] h = record { digits = refl; decimals = refl; exponent = refl }
ends_number (b ∷ rest) h = record {
  digits = run_stops is_ascii_digit b rest (no_digit_on b h);
  decimals = no_point b rest (no_point_on b h);
  exponent = ap (λ t. cond t (one_longer (signed_len rest)) 0) (no_letter_on b h);
}

number_whole : (text rest : List ℕ) → IsDecimalText text → ends Number rest ≡ true → FoundWhole Number text rest
number_whole text rest t h =
    let exact = number_exact text t rest (ends_number rest h) in
    number_found (text ++ rest) (omega (arith, exact, number_some text t)) ∙ ap (found_token Number) exact

reference_whole : (text rest : List ℕ) → IsReference text → FoundWhole Reference text rest
reference_whole text rest (one_cell c h) =
    let exact = reference_complete c h rest in
    reference_found (46 ∷ (cell_text c ++ 93 ∷ []) ++ rest) (omega (arith, exact)) ∙ ap (found_token Reference) exact

beside_whole : (c d : WrittenCell) (rest : List ℕ) → IsCell c → IsCell d → FoundWhole Rectangle (bracketed (beside c d)) rest
beside_whole c d rest h k =
    let exact = rectangle_complete c d h k rest in
    rectangle_found (46 ∷ (beside c d ++ 93 ∷ []) ++ rest) (no_reference_len c d h k rest) (omega (arith, exact)) ∙ ap (found_token Rectangle) exact

rectangle_whole : (text rest : List ℕ) → IsRectangle text → FoundWhole Rectangle text rest
rectangle_whole text rest (two_cells c d h k) = subst (λ t. FoundWhole Rectangle t rest) (rectangle_is c d) (beside_whole c d rest h k)

ends_name : (rest : List ℕ) → ends Name rest ≡ true → prefix_len is_name_part rest ≡ 0
ends_name [] h = refl
ends_name (b ∷ rest) h = run_stops is_name_part b rest (not-true (is_name_part b) h)

name_whole : (text rest : List ℕ) → IsName text → ends Name rest ≡ true → FoundWhole Name text rest
name_whole [] rest t h = absurd (omega (arith, name_some [] t))
name_whole (b ∷ text) rest t h =
    let exact = name_exact (b ∷ text) t rest (ends_name rest h) in
    name_found b (text ++ rest) t.start (omega (arith, exact)) ∙ ap (found_token Name) exact

ends_text : (rest : List ℕ) → ends Text rest ≡ true → text_len rest ≡ 0
unfolding quoted_len
ends_text [] h = refl
ends_text (b ∷ rest) h = ap (λ t. cond t (one_longer (quoted_len true rest)) 0) (not-true (b == 34) h)

text_whole : (text rest : List ℕ) → IsText text → ends Text rest ≡ true → FoundWhole Text text rest
text_whole text rest (of_content content) h =
    let exact = text_exact (quoted content) (of_content content) rest (ends_text rest h) in
    text_found (inside_of content ++ rest) (omega (arith, exact)) ∙ ap (found_token Text) exact

no_equal_on : (b : ℕ) → ends (Mark Less) (b ∷ []) ≡ true → (b == 61) ≡ false
no_equal_on b h = grind (arith, nat_tests)

no_greater_on : (b : ℕ) → ends (Mark Less) (b ∷ []) ≡ true → (b == 62) ≡ false
no_greater_on b h = grind (arith, nat_tests)

mark_whole : (m : mark.Mark) (rest : List ℕ) → ends (Mark m) rest ≡ true → MarkFound m (mark_text m ++ rest)
unfolding number_len decimal_len decimals_len mark_at two_byte_mark one_byte_mark
mark_whole Less [] h = mark_found (60 ∷ []) Less refl refl
mark_whole Less (b ∷ rest) h = mark_found (60 ∷ b ∷ rest) Less refl (cc (no_equal_on b h, no_greater_on b h))
mark_whole Greater [] h = mark_found (62 ∷ []) Greater refl refl
mark_whole Greater (b ∷ rest) h = mark_found (62 ∷ b ∷ rest) Greater refl (cc (not-true (b == 61) h))
mark_whole m rest h = mark_found (mark_text m ++ rest) m refl refl

pub found_whole : (k : Kind) (text rest : List ℕ) → IsToken k text → ends k rest ≡ true → token_at (text ++ rest) ≡ found_token k (length text)
found_whole Number text rest t h = number_whole text rest t h
found_whole Reference text rest t h = reference_whole text rest t
found_whole Rectangle text rest t h = rectangle_whole text rest t
found_whole Name text rest t h = name_whole text rest t h
found_whole Text text rest t h = text_whole text rest t h
found_whole (Mark m) text rest t h = subst (λ x. FoundWhole (Mark m) x rest) (sym t) (mark_whole m rest h)

-- ---- the law

pub token_and_rest : (k : Kind) (text rest : List ℕ) → IsToken k text → ends k rest ≡ true → tokens (text ++ rest) ≡ then_tokens ((k, text) ∷ []) (tokens rest)
token_and_rest k text rest t h =
    let some = token_some k text t in
    let bs = text ++ rest in
    tokens_are bs
    ∙ ap (tokens_ahead tokens) (no_blanks text rest some (token_no_blank k text t))
    ∙ found_ahead tokens bs k text rest refl some (found_whole k text rest t h)
