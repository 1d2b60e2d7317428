-- Which symbols and trees a formula's text can have.
use Rattle.std.specs.Prelude.{◌≡◌, All, true, false, codes}
use Rattle.std.specs.Str.{str_eq_ignore_ascii_case}
use Rattle.wi_fraction.specs.Decimal.{IsUnsignedDecimal}
use Rattle.wi_lexer.specs.Name.{IsName}
use Rattle.wi_parser.specs.Capitals.{in_capitals}
use Rattle.wi_parser.specs.Nesting.{is_too_deep}
use Rattle.wi_parser.specs.Shift.{in_sheet}
use Rattle.wi_parser.specs.Spelling.{HasSpelling, spelling}
use Rattle.wi_parser.specs.Symbol.{Symbol, numeral, reference, corners, name}
use Rattle.wi_parser.specs.Tree.{Tree}
use Rattle.wi_fraction.specs.Text.{Bytes}

-- The name of a function in capitals; MULTIPLE.OPERATIONS is none.
pub record IsFunctionName (f : Bytes) : Type 0 where
  pub name : IsName f
  pub capitals : in_capitals f ≡ f
  pub other : str_eq_ignore_ascii_case f (codes "MULTIPLE.OPERATIONS") ≡ false

-- A text can have the symbol: its number is a decimal without a sign, its cells are in the sheet, its name is a
-- function's.
abbrev pub IsWritable : Symbol → Type 0
IsWritable (numeral x) = IsUnsignedDecimal x
IsWritable (reference r) = in_sheet r ≡ true
IsWritable (corners c) = (in_sheet c.one ≡ true) × (in_sheet c.other ≡ true)
IsWritable (name f) = IsFunctionName f
IsWritable s = Unit {0}

-- Some text is read as the tree, were it not for the length of texts: it is spelled, by symbols that a text can have,
-- and nests within the limits.
pub record IsFormulaTree (t : Tree) : Type 0 where
  pub spelled : HasSpelling t
  pub symbols : All IsWritable (spelling t)
  pub shallow : is_too_deep (spelling t) ≡ false
