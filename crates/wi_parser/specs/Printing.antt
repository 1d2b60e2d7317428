-- The text of a formula.
use Rattle.std.specs.Prelude.{◌+◌, [], ◌++◌, codes}
use Rattle.std.specs.Fmt.{decimal}
use Rattle.std.specs.List.{flat_map}
use Rattle.wi_fraction.specs.Decimal.{decimal_text}
use Rattle.wi_values.specs.Address.{row_of, column_of, column_letters}
use Rattle.wi_lexer.specs.Quoted.{quoted}
use Rattle.wi_lexer.specs.Cell.{WrittenCell}
use Rattle.wi_lexer.specs.Reference.{reference_text}
use Rattle.wi_lexer.specs.Rectangle.{rectangle_text}
use Rattle.wi_parser.specs.declared.expr.Operator.{Operator}
use Rattle.wi_parser.specs.declared.expr.Operator.TheVariants.{Add, Subtract, Multiply, Divide, Power, Join, Equal, NotEqual, Less, LessOrEqual, Greater, GreaterOrEqual}
use Rattle.wi_parser.specs.declared.expr.Reference.{Reference}
use Rattle.wi_parser.specs.Tree.{Tree}
use Rattle.wi_parser.specs.Symbol.{Symbol, numeral, text_literal, reference, corners, open_parenthesis, close_parenthesis, separator, infix_mark, percent_mark, what_if_name, name, bad_token}
use Rattle.wi_parser.specs.Spelling.{spelling}
use Rattle.wi_fraction.specs.Text.{Bytes}

abbrev pub written_cell : Reference → WrittenCell
written_cell r = record {
  column_is_absolute = r.column_is_absolute;
  letters = column_letters (column_of r.at);
  row_is_absolute = r.row_is_absolute;
  digits = decimal (row_of r.at + 1);
}

abbrev pub operator_text : Operator → Bytes
operator_text Add = codes "+"
operator_text Subtract = codes "-"
operator_text Multiply = codes "*"
operator_text Divide = codes "/"
operator_text Power = codes "^"
operator_text Join = codes "&"
operator_text Equal = codes "="
operator_text NotEqual = codes "<>"
operator_text Less = codes "<"
operator_text LessOrEqual = codes "<="
operator_text Greater = codes ">"
operator_text GreaterOrEqual = codes ">="

-- no tree has a bad token
abbrev pub symbol_text : Symbol → Bytes
symbol_text (numeral x) = decimal_text x
symbol_text (text_literal s) = quoted s
symbol_text (reference r) = reference_text (written_cell r)
symbol_text (corners c) = rectangle_text (written_cell c.one) (written_cell c.other)
symbol_text open_parenthesis = codes "("
symbol_text close_parenthesis = codes ")"
symbol_text separator = codes ";"
symbol_text (infix_mark op) = operator_text op
symbol_text percent_mark = codes "%"
symbol_text what_if_name = codes "MULTIPLE.OPERATIONS"
symbol_text (name f) = f
symbol_text (bad_token e) = []

abbrev pub printed : Tree → Bytes
printed t = codes "=" ++ flat_map symbol_text (spelling t)
