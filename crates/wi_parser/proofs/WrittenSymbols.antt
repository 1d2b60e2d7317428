-- The text of a symbol is a token that means the symbol.
use Rattle.wi_parser.proofs.Words.{◌≡◌, ◌≢◌, ℕ, zero, suc, ◌*◌, ◌/◌, ◌%◌, ◌^◌, ◌<◌, ◌≤◌, true, List, [], ◌++◌, length, Option, Some, None, unsigned_abs, if◌then◌else◌, refl, sym, ap, ap₂, ◌∙◌, subst, arith, decimal, Number as Numbers, max_size, padded, size_text, sign_text, places, decimal_text, IsUnsignedDecimal, plain, point, length-padded, digits_padded, all_none, div_small, decimal_few, decimals_read_back, Kind, Text, Rectangle, Mark, Name, OpenParenthesis, CloseParenthesis, Semicolon, Percent, one_cell, two_cells, of_content, IsToken, SomeDigits, digits_alone, reference_of_complete, rectangle_of_complete, text_reads_back, Corners, Symbol, numeral, text_literal, reference, corners, open_parenthesis, close_parenthesis, separator, infix_mark, percent_mark, what_if_name, name, bad_token, in_capitals, in_sheet, written_cell, symbol_text, number_symbol, cell_symbol, reference_symbol, corners_symbol, rectangle_symbol, symbol_of, IsFunctionName, IsWritable}
use Rattle.wi_fraction.proofs.ReadsBack.{numeral as decimal_digits}
use Rattle.wi_lexer.specs.declared.token.Kind.TheVariants.{Number, Reference}
use Rattle.wi_parser.specs.declared.expr.Reference as references
use Rattle.wi_parser.proofs.CellsOfSheet.{cell_is, cell_means}
use Rattle.wi_parser.proofs.Apart.{stands_before}
use Rattle.wi_parser.proofs.Meanings.{mark_of, operator_is, operator_means}

-- the kind of the token that a symbol is written as; a refused one is not written
abbrev pub kind_of : Symbol → Kind
kind_of (numeral x) = Number
kind_of (text_literal s) = Text
kind_of (reference r) = Reference
kind_of (corners c) = Rectangle
kind_of open_parenthesis = Mark OpenParenthesis
kind_of close_parenthesis = Mark CloseParenthesis
kind_of separator = Mark Semicolon
kind_of (infix_mark op) = Mark (mark_of op)
kind_of percent_mark = Mark Percent
kind_of what_if_name = Name
kind_of (name f) = Name
kind_of (bad_token e) = Name

-- the text of the symbol is a token, and means the symbol
pub record IsWritten (s : Symbol) : Type 0 where
  pub token : IsToken (kind_of s) (symbol_text s)
  pub means : symbol_of (kind_of s) (symbol_text s) ≡ s

-- ---- numbers

size_is : (n d : ℕ) (p : Option ℕ) → p ≢ None → n ≤ max_size → SomeDigits (size_text p n d)
unfolding size_text
size_is n d None some fits = absurd (some refl)
size_is n d (Some zero) some fits = (decimal n, [], plain (decimal n) (decimal_digits n fits))
size_is n d (Some (suc k)) some fits =
    let digits = padded (suc k) (n % d * (10 ^ suc k / d)) in
    let front = decimal_digits (n / d) (div_small n d fits) in
    let long : 0 < length digits = omega (arith, length-padded (suc k) (n % d * (10 ^ suc k / d))) in
    (decimal (n / d), digits, point (decimal (n / d)) digits front.1 (long, digits_padded (suc k) _))

-- the exact decimal of a number without a sign is digits, and digits after a point or none
pub number_is : (x : Numbers) → IsUnsignedDecimal x → SomeDigits (decimal_text x)
unfolding decimal_text
number_is x h =
    let divides = decimal_few h.decimal.0 x.den x.is_number.above_zero x.is_number.den_fits h.decimal.1 in
    let size = size_is (unsigned_abs x.num) x.den (places 126 x.den) (λ none. all_none x.den none divides) x.is_number.num_fits in
    subst (λ b. SomeDigits (sign_text b ++ size_text (places 126 x.den) (unsigned_abs x.num) x.den)) (sym h.unsigned) size

number_written : (x : Numbers) → IsUnsignedDecimal x → IsWritten (numeral x)
number_written x h = record { token = digits_alone (decimal_text x) (number_is x h); means = ap number_symbol (decimals_read_back x h.decimal h.unsigned) }

-- ---- other symbols

reference_written : (r : references.Reference) → in_sheet r ≡ true → IsWritten (reference r)
reference_written r e =
    let is = cell_is r e in
    record {
      token = one_cell (written_cell r) is;
      means = ap reference_symbol (reference_of_complete (written_cell r) is) ∙ ap cell_symbol (cell_means r e);
    }

corners_written : (c : Corners) → in_sheet c.one ≡ true → in_sheet c.other ≡ true → IsWritten (corners c)
corners_written c e f =
    let one = cell_is c.one e in
    let other = cell_is c.other f in
    record {
      token = two_cells (written_cell c.one) (written_cell c.other) one other;
      means = ap rectangle_symbol (rectangle_of_complete (written_cell c.one) (written_cell c.other) one other) ∙ ap₂ corners_symbol (cell_means c.one e) (cell_means c.other f);
    }

name_written : (f : List ℕ) → IsFunctionName f → IsWritten (name f)
name_written f h = record { token = h.name; means = ap (λ b. if b then what_if_name else name (in_capitals f)) h.other ∙ ap name h.capitals }

pub written : (s : Symbol) (ts : List Symbol) → IsWritable s → stands_before s ts ≡ true → IsWritten s
written (numeral x) ts w e = number_written x w
written (text_literal s) ts w e = record { token = of_content s; means = ap text_literal (text_reads_back s) }
written (reference r) ts w e = reference_written r w
written (corners c) ts w e = corners_written c w.0 w.1
written (infix_mark op) ts w e = record { token = operator_is op; means = operator_means op }
written what_if_name ts w e = record { token = record { start = refl; parts = refl }; means = refl }
written (name f) ts w e = name_written f w
written (bad_token f) ts w e = cc
written s ts w e = record { token = refl; means = refl }
