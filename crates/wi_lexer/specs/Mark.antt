-- Marks of a formula.
use Rattle.std.specs.Prelude.{codes}
use Rattle.wi_lexer.specs.declared.token.Mark.{Mark}
use Rattle.wi_lexer.specs.declared.token.Mark.TheVariants.{OpenParenthesis, CloseParenthesis, Plus, Minus, Asterisk, Slash, Caret, Percent, Ampersand, Equal, NotEqual, Less, LessOrEqual, Greater, GreaterOrEqual, Semicolon}
use Rattle.wi_fraction.specs.Text.{Bytes}

abbrev pub mark_text : Mark → Bytes
mark_text OpenParenthesis = codes "("
mark_text CloseParenthesis = codes ")"
mark_text Plus = codes "+"
mark_text Minus = codes "-"
mark_text Asterisk = codes "*"
mark_text Slash = codes "/"
mark_text Caret = codes "^"
mark_text Percent = codes "%"
mark_text Ampersand = codes "&"
mark_text Equal = codes "="
mark_text NotEqual = codes "<>"
mark_text Less = codes "<"
mark_text LessOrEqual = codes "<="
mark_text Greater = codes ">"
mark_text GreaterOrEqual = codes ">="
mark_text Semicolon = codes ";"
