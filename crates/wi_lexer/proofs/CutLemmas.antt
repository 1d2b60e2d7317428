-- A text may be cut after white space and after a token.
use Rattle.wi_lexer.proofs.Words.{◌≡◌, ℕ, zero, suc, ◌+◌, ◌-◌, ◌<◌, ◌≤◌, ℤ, true, List, [], ◌∷◌, ◌++◌, length, take, get_or, IsUtf8, sym, ap, ◌∙◌, subst, arith, length-append, IsCharBoundary, is_ascii_digit, flat_map, IsNumeral, IsCharBoundary-start, IsCharBoundary-after_ascii, nat_tests, get_or-append-add, get_or-take, length-take-le, AllPass-from_list_all, prefix_len_passes, WritesDigits, plain, point, WritesExponent, none, power, IsDecimalText, doubled, Kind, Number, Reference, Rectangle, Name, Text, Mark, NotEqual, is_blank, blanks_len, cell_text, IsReference, one_cell, IsRectangle, two_cells, IsName, is_name_part, IsText, of_content, mark_text, IsToken, IsLongest}
use Rattle.wi_lexer.specs.declared.token.Mark as mark
use Rattle.wi_lexer.proofs.RunLemmas.{run_within, digits_all}
use Rattle.wi_lexer.proofs.NumberLemmas.{number_cases}
use Rattle.wi_lexer.proofs.BracketLemmas.{bracketed}
use Rattle.wi_lexer.proofs.RectangleLemmas.{beside, rectangle_is}
use Rattle.wi_lexer.proofs.NameLemmas.{name_some}

after_ascii : (bs : List ℕ) (n : ℕ) → IsUtf8 bs → n ≤ length bs → (0 < n → get_or bs (n - 1) 0 < 128) → IsCharBoundary bs n
after_ascii bs zero utf8 within h = IsCharBoundary-start bs utf8
after_ascii bs (suc n) utf8 within h =
    let same : suc n - 1 ≡ n = omega arith in
    let next : n + 1 ≡ suc n = omega arith in
    let byte = h (omega arith) in
    subst (IsCharBoundary bs) next (IsCharBoundary-after_ascii bs n utf8 (omega arith) (omega (arith, byte, ap (λ i. get_or bs i 0) same)))

blank_ascii : (b : ℕ) → is_blank b ≡ true → b < 128
blank_ascii b h = grind (arith, nat_tests)

pub blanks_cut : (bs : List ℕ) → IsUtf8 bs → IsCharBoundary bs (blanks_len bs)
blanks_cut bs utf8 =
    after_ascii bs (blanks_len bs) utf8 (run_within is_blank bs)
    (λ some. blank_ascii (get_or bs (blanks_len bs - 1) 0) (prefix_len_passes is_blank bs (blanks_len bs - 1) 0 (omega arith)))

-- the last byte, or 0 where there is none
abbrev last : List ℕ → ℕ
last text = get_or text (length text - 1) 0

digit_ascii : (b : ℕ) → is_ascii_digit b ≡ true → b < 128
digit_ascii b h = grind (arith, nat_tests)

digits_last : (ds : List ℕ) → IsNumeral 10 ds → last ds < 128
digits_last ds h = digit_ascii (last ds) (AllPass-from_list_all is_ascii_digit ds (digits_all ds h.1) (length ds - 1) 0 (omega (arith, h.0)))

last_append : (xs ys : List ℕ) → 0 < length ys → last (xs ++ ys) ≡ last ys
last_append xs ys some =
    let place : length (xs ++ ys) - 1 ≡ length xs + (length ys - 1) = omega (arith, length-append xs ys) in
    ap (λ i. get_or (xs ++ ys) i 0) place ∙ get_or-append-add xs ys (length ys - 1) 0

-- digits after other bytes
ends_in_digits : (xs ds : List ℕ) → IsNumeral 10 ds → last (xs ++ ds) < 128
ends_in_digits xs ds h = omega (arith, last_append xs ds h.0, digits_last ds h)

decimal_last : (text ds es : List ℕ) → WritesDigits text ds es → last text < 128
decimal_last text _ _ (plain ds h) = digits_last ds h
decimal_last text _ _ (point ds es h i) = omega (arith, last_append ds (46 ∷ es) (omega arith), ends_in_digits (46 ∷ []) es i)

exponent_last : (text : List ℕ) (k : ℤ) → WritesExponent text k → last text < 128
exponent_last text k none = omega arith
exponent_last text k (power e sign ds s letter is h) = ends_in_digits (e ∷ sign) ds h

number_last : (text : List ℕ) → IsDecimalText text → last text < 128
number_last = number_cases (λ text. last text < 128) record {
  alone = decimal_last;
  scaled = λ text ds es d exponent k e letter. omega (arith, last_append text exponent (omega (arith, ap length letter.is)), exponent_last exponent k e);
}

bracketed_last : (x : List ℕ) → last (bracketed x) < 128
bracketed_last x =
    let a = last_append (91 ∷ 46 ∷ x) (93 ∷ []) (omega arith) in
    omega (arith, a)

reference_last : (text : List ℕ) → IsReference text → last text < 128
reference_last text (one_cell c h) = bracketed_last (cell_text c)

rectangle_last : (text : List ℕ) → IsRectangle text → last text < 128
rectangle_last text (two_cells c d h k) = subst (λ x. last x < 128) (rectangle_is c d) (bracketed_last (beside c d))

name_part_ascii : (b : ℕ) → is_name_part b ≡ true → b < 128
name_part_ascii b h = grind (arith, nat_tests)

name_last : (text : List ℕ) → IsName text → last text < 128
name_last text h = name_part_ascii (last text) (AllPass-from_list_all is_name_part text h.parts (length text - 1) 0 (omega (arith, name_some text h)))

text_last : (text : List ℕ) → IsText text → last text < 128
text_last text (of_content content) = omega (arith, last_append (34 ∷ flat_map doubled content) (34 ∷ []) (omega arith))

mark_last : (m : mark.Mark) → last (mark_text m) < 128
mark_last NotEqual = omega arith
mark_last m = omega arith

-- a token ends with an ASCII byte
token_last : (k : Kind) (text : List ℕ) → IsToken k text → last text < 128
token_last Number text t = number_last text t
token_last Reference text t = reference_last text t
token_last Rectangle text t = rectangle_last text t
token_last Name text t = name_last text t
token_last Text text t = text_last text t
token_last (Mark m) text t = subst (λ x. last x < 128) (sym t) (mark_last m)

pub token_cut : (bs : List ℕ) (k : Kind) (n : ℕ) → IsUtf8 bs → IsLongest k n bs → IsCharBoundary bs n
token_cut bs k n utf8 h = after_ascii bs n utf8 h.within ends
  where
    ends : 0 < n → get_or bs (n - 1) 0 < 128
    ends some =
        let byte = token_last k (take n bs) h.token in
        let size = length-take-le n bs h.within in
        let place = ap (λ i. get_or (take n bs) (i - 1) 0) size in
        let same = get_or-take n bs (n - 1) 0 (omega arith) in
        omega (arith, byte, place, same)
