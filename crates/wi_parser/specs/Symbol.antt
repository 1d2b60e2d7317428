-- What tokens mean.
use Rattle.wi_fraction.specs.Number.{Number}
use Rattle.wi_parser.specs.declared.expr.Corners.{Corners}
use Rattle.wi_parser.specs.declared.expr.Operator.{Operator}
use Rattle.wi_parser.specs.declared.expr.Operator.TheVariants.{Add, Subtract}
use Rattle.wi_parser.specs.declared.expr.Reference.{Reference}
use Rattle.wi_parser.specs.declared.expr.Sign.{Sign}
use Rattle.wi_parser.specs.declared.expr.Sign.TheVariants.{Plus, Minus}
use Rattle.wi_parser.specs.declared.fault.ParseFault.{ParseFault}
use Rattle.wi_fraction.specs.Text.{Bytes}

-- A bad token has no value: no formula has it, for this reason.
pub data Symbol : Type 0 where
  numeral : Number → Symbol
  -- without its quotes
  text_literal : Bytes → Symbol
  reference : Reference → Symbol
  -- a reference to a rectangle
  corners : Corners → Symbol
  open_parenthesis close_parenthesis separator percent_mark : Symbol
  infix_mark : Operator → Symbol
  -- the name MULTIPLE.OPERATIONS
  what_if_name : Symbol
  -- another name, in capitals
  name : Bytes → Symbol
  bad_token : ParseFault → Symbol

abbrev pub written_as : Sign → Operator
written_as Plus = Add
written_as Minus = Subtract

abbrev pub sign_mark : Sign → Symbol
sign_mark s = infix_mark (written_as s)
