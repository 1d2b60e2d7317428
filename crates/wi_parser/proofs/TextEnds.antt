-- The text of a symbol ends where that of the next begins.
use Rattle.wi_parser.proofs.Words.{◌≡◌, ℕ, true, false, not, List, [], ◌∷◌, ◌++◌, refl, ap, arith, nat_tests, is_ascii_digit, list_all, AllDigits, All-head, and_parts, decimal_text, WritesDigits, plain, point, Kind, Name, Text, Mark, Less, Greater, IsName, is_name_start, goes_on, ends, digits_all, Operator, Symbol, numeral, text_literal, reference, corners, open_parenthesis, close_parenthesis, separator, infix_mark, percent_mark, what_if_name, name, bad_token, symbol_text, symbols_text, IsWritable}
use Rattle.std.specs.List.{All}
use Rattle.wi_lexer.specs.declared.token.Kind.TheVariants.{Number}
use Rattle.wi_parser.specs.declared.expr.Operator.TheVariants as operator
use Rattle.wi_parser.proofs.Meanings.{mark_of}
use Rattle.wi_parser.proofs.Apart.{begins, at_operand, after_operand, at_parenthesis, stands_before}
use Rattle.wi_parser.proofs.WrittenSymbols.{kind_of, number_is}

-- ---- what an operand begins with goes on with no `<` and no `>`

abbrev AfterMark : List ℕ → Type 0
AfterMark bs = (ends (Mark Less) bs ≡ true) × (ends (Mark Greater) bs ≡ true)

digit_first : (d : ℕ) (rest : List ℕ) → is_ascii_digit d ≡ true → AfterMark (d ∷ rest)
digit_first d rest h = (grind (arith, nat_tests), grind (arith, nat_tests))

name_first : (b : ℕ) (rest : List ℕ) → is_name_start b ≡ true → AfterMark (b ∷ rest)
name_first b rest h = (grind (arith, nat_tests), grind (arith, nat_tests))

digits_first : (d : ℕ) (ds : List ℕ) → AllDigits 10 (d ∷ ds) → is_ascii_digit d ≡ true
digits_first d ds h = (and_parts (is_ascii_digit d) (list_all is_ascii_digit ds) (digits_all (d ∷ ds) h)).0

number_first : (text ds es rest : List ℕ) → WritesDigits text ds es → AfterMark (text ++ rest)
number_first text _ _ rest (plain [] h) = absurd (omega (arith, h.0))
number_first text _ _ rest (plain (d ∷ ds) h) = digit_first d (ds ++ rest) (digits_first d ds h.1)
number_first text _ _ rest (point [] es h i) = (refl, refl)
number_first text _ _ rest (point (d ∷ ds) es h i) = digit_first d ((ds ++ 46 ∷ es) ++ rest) (digits_first d ds h)

function_first : (f rest : List ℕ) → IsName f → AfterMark (f ++ rest)
function_first [] rest h = let no = h.start in cc
function_first (b ∷ bs) rest h = name_first b (bs ++ rest) h.start

operand_first : (s : Symbol) (rest : List ℕ) → IsWritable s → begins s ≡ true → AfterMark (symbol_text s ++ rest)
operand_first (numeral x) rest w e = let d = number_is x w in number_first (decimal_text x) d.0 d.1 rest d.2
operand_first (text_literal s) rest w e = (refl, refl)
operand_first (reference r) rest w e = (refl, refl)
operand_first (corners c) rest w e = (refl, refl)
operand_first open_parenthesis rest w e = (refl, refl)
operand_first (infix_mark operator.Add) rest w e = (refl, refl)
operand_first (infix_mark operator.Subtract) rest w e = (refl, refl)
operand_first what_if_name rest w e = (refl, refl)
operand_first (name f) rest w e = function_first f rest w.name
operand_first s rest w e = cc

operand_ends : (ts : List Symbol) → All IsWritable ts → at_operand ts ≡ true → AfterMark (symbols_text ts)
operand_ends [] w e = cc
operand_ends (s ∷ ts) w e = operand_first s (symbols_text ts) (All-head IsWritable s ts w) e

-- ---- what stands after an operand goes on with no number and no text

follower_ends : (ts : List Symbol) → after_operand ts ≡ true → (ends Number (symbols_text ts) ≡ true) × (ends Text (symbols_text ts) ≡ true)
follower_ends [] e = (refl, refl)
follower_ends (close_parenthesis ∷ ts) e = (refl, refl)
follower_ends (separator ∷ ts) e = (refl, refl)
follower_ends (percent_mark ∷ ts) e = (refl, refl)
follower_ends (infix_mark operator.Add ∷ ts) e = (refl, refl)
follower_ends (infix_mark op ∷ ts) e = (refl, refl)
follower_ends (s ∷ ts) e = cc

name_ends : (ts : List Symbol) → at_parenthesis ts ≡ true → ends Name (symbols_text ts) ≡ true
name_ends [] e = cc
name_ends (open_parenthesis ∷ ts) e = refl
name_ends (s ∷ ts) e = cc

-- ---- each kind

-- a token of a kind that never goes on
always_ends : (k : Kind) → ((b : ℕ) → goes_on k b ≡ false) → (bs : List ℕ) → ends k bs ≡ true
always_ends k never [] = refl
always_ends k never (b ∷ bs) = ap not (never b)

operator_ends : (op : Operator) (bs : List ℕ) → AfterMark bs → ends (Mark (mark_of op)) bs ≡ true
operator_ends operator.Less bs h = h.0
operator_ends operator.Greater bs h = h.1
operator_ends op bs h = always_ends (Mark (mark_of op)) (λ b. refl) bs

pub text_ends : (s : Symbol) (ts : List Symbol) → All IsWritable ts → stands_before s ts ≡ true → ends (kind_of s) (symbols_text ts) ≡ true
text_ends (numeral x) ts w e = (follower_ends ts e).0
text_ends (text_literal s) ts w e = (follower_ends ts e).1
text_ends (infix_mark op) ts w e = operator_ends op (symbols_text ts) (operand_ends ts w e)
text_ends what_if_name ts w e = name_ends ts e
text_ends (name f) ts w e = name_ends ts e
text_ends (bad_token f) ts w e = cc
text_ends s ts w e = always_ends (kind_of s) (λ b. refl) (symbols_text ts)
