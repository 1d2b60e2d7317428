-- The symbols of a formula's text, as a reader finds them. Laws tie them to what texts mean.
use Rattle.std.specs.Prelude.{◌≡◌, ℕ, List, [], ◌∷◌, ◌++◌, map, codes, ◌==◌, if◌then◌else◌, Option, Some, None, option_map, unwrap_or}
use Rattle.std.specs.Char.{to_ascii_uppercase}
use Rattle.std.specs.Str.{str_eq_ignore_ascii_case}
use Rattle.wi_fraction.specs.Number.{Number as Numbers}
use Rattle.wi_fraction.specs.Inner.Reading.{read_decimal}
use Rattle.wi_lexer.specs.declared.token.Kind.{Kind}
use Rattle.wi_lexer.specs.declared.token.Kind.TheVariants.{Number, Text, Reference, Rectangle, Mark, Name}
use Rattle.wi_lexer.specs.declared.token.Mark as mark
use Rattle.wi_lexer.specs.declared.token.Mark.TheVariants.{OpenParenthesis, CloseParenthesis, Semicolon, Plus, Minus, Asterisk, Slash, Caret, Percent, Ampersand, Equal, NotEqual, Less, LessOrEqual, Greater, GreaterOrEqual}
use Rattle.wi_lexer.specs.Cell.{WrittenCell}
use Rattle.wi_lexer.specs.Inner.Reference.{reference_of}
use Rattle.wi_lexer.specs.Inner.Rectangle.{rectangle_of}
use Rattle.wi_lexer.specs.Inner.Text.{text_content}
use Rattle.wi_lexer.specs.Tokens.{Tokens}
use Rattle.wi_lexer.specs.Inner.Tokens.{tokens}
use Rattle.wi_parser.specs.declared.expr.Operator.TheVariants as operator
use Rattle.wi_parser.specs.declared.expr.Reference as references
use Rattle.wi_parser.specs.declared.fault.ParseFault.TheVariants.{OutOfSheet, NumberRange, Syntax}
use Rattle.wi_parser.specs.declared.front.Front.{Front}
use Rattle.wi_parser.specs.Symbol.{Symbol, numeral, text_literal, reference, corners, open_parenthesis, close_parenthesis, separator, infix_mark, percent_mark, bad_token, what_if_name, name}
use Rattle.wi_parser.specs.Symbols.{reference_to}

-- a number, if it fits
abbrev pub number_symbol : Option Numbers → Symbol
number_symbol None = bad_token NumberRange
number_symbol (Some x) = numeral x

abbrev pub cell_symbol : Option references.Reference → Symbol
cell_symbol None = bad_token OutOfSheet
cell_symbol (Some r) = reference r

abbrev pub reference_symbol : Option WrittenCell → Symbol
reference_symbol None = bad_token Syntax
reference_symbol (Some c) = cell_symbol (reference_to c)

-- a rectangle, if the sheet has both corners
abbrev pub corners_symbol : Option references.Reference → Option references.Reference → Symbol
corners_symbol None d = bad_token OutOfSheet
corners_symbol (Some c) None = bad_token OutOfSheet
corners_symbol (Some c) (Some d) = corners (record { one = c; other = d })

abbrev pub rectangle_symbol : Option (WrittenCell × WrittenCell) → Symbol
rectangle_symbol None = bad_token Syntax
rectangle_symbol (Some p) = corners_symbol (reference_to p.0) (reference_to p.1)

-- a mark
abbrev pub mark_symbol : mark.Mark → Symbol
mark_symbol OpenParenthesis = open_parenthesis
mark_symbol CloseParenthesis = close_parenthesis
mark_symbol Semicolon = separator
mark_symbol Plus = infix_mark operator.Add
mark_symbol Minus = infix_mark operator.Subtract
mark_symbol Asterisk = infix_mark operator.Multiply
mark_symbol Slash = infix_mark operator.Divide
mark_symbol Caret = infix_mark operator.Power
mark_symbol Percent = percent_mark
mark_symbol Ampersand = infix_mark operator.Join
mark_symbol Equal = infix_mark operator.Equal
mark_symbol NotEqual = infix_mark operator.NotEqual
mark_symbol Less = infix_mark operator.Less
mark_symbol LessOrEqual = infix_mark operator.LessOrEqual
mark_symbol Greater = infix_mark operator.Greater
mark_symbol GreaterOrEqual = infix_mark operator.GreaterOrEqual

abbrev pub name_symbol : List ℕ → Symbol
name_symbol bs = if str_eq_ignore_ascii_case bs (codes "MULTIPLE.OPERATIONS") then what_if_name else name (map to_ascii_uppercase bs)

-- what a token of this kind with these bytes means
abbrev pub symbol_of : Kind → List ℕ → Symbol
symbol_of Number bs = number_symbol (read_decimal bs)
symbol_of Text bs = text_literal (text_content bs)
symbol_of Reference bs = reference_symbol (reference_of bs)
symbol_of Rectangle bs = rectangle_symbol (rectangle_of bs)
symbol_of (Mark m) bs = mark_symbol m
symbol_of Name bs = name_symbol bs

-- what tokens mean; a bad one, which ends them, is refused
abbrev pub symbols_of : Tokens → List Symbol
symbols_of ts = map (λ t. symbol_of t.0 t.1) ts.found ++ (if ts.bad then bad_token Syntax ∷ [] else [])

-- what follows the front, where the bytes begin with it
abbrev pub after : List ℕ → List ℕ → Option (List ℕ)
after [] bs = Some bs
after (c ∷ cs) [] = None
after (c ∷ cs) (b ∷ bs) = if b == c then after cs bs else None

-- the text after the prefix `of:`, where it begins with it
abbrev pub after_prefix : List ℕ → List ℕ
after_prefix text = unwrap_or (after (codes "of:") text) text

-- what follows the `=` of a formula
abbrev pub after_equals : List ℕ → Option (List ℕ)
after_equals text = after (codes "=") (after_prefix text)

-- what was found at the front of a text
pub record IsFrontOf (text : List ℕ) (front : Front) : Type 0 where
  pub plain : front.plain.now ≡ after_prefix text
  pub body : option_map (λ b. b.now) front.body ≡ after_equals text

abbrev pub symbols_by : List ℕ → Option (List ℕ) → List Symbol
symbols_by text (Some body) = symbols_of (tokens body)
symbols_by text None = bad_token Syntax ∷ symbols_of (tokens text)

-- the symbols of a text with this front
abbrev pub symbols_with : Front → List Symbol
symbols_with front = symbols_by front.plain.now (option_map (λ b. b.now) front.body)

-- the symbols of a formula after its `=`; a text that does not begin with it has a refused one first
unfoldable pub formula_symbols : List ℕ → List Symbol
formula_symbols text = symbols_by (after_prefix text) (after_equals text)
