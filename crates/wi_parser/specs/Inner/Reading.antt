-- What a text is taken for, as a reader finds it. Laws tie it to what texts stand for.
use Rattle.std.specs.Prelude.{◌≡◌, ℕ, ◌+◌, ◌≤◌, Bool, true, false, List, length, nat_lt, if◌then◌else◌, codes, Option, Some, None, option_map, is_some, Result, Ok, Err, ok_or}
use Rattle.wi_values.specs.declared.value.Value.TheVariants.{Text}
use Rattle.wi_values.specs.Import.{max_text}
use Rattle.wi_values.specs.Inner.Import.{imported}
use Rattle.wi_parser.specs.declared.content.Content.{Content}
use Rattle.wi_parser.specs.declared.content.Content.TheVariants.{Constant, Formula}
use Rattle.wi_parser.specs.declared.fault.ParseFault.{ParseFault}
use Rattle.wi_parser.specs.declared.fault.ParseFault.TheVariants.{TooLong, Syntax, Memory}
use Rattle.wi_parser.specs.Tree.{Tree}
use Rattle.wi_parser.specs.Symbol.{Symbol}
use Rattle.wi_parser.specs.Nesting.{max_depth, is_too_deep}
use Rattle.wi_parser.specs.Inner.Reader.{whole}
use Rattle.wi_parser.specs.Inner.FormulaText.{after, after_equals, formula_symbols}
use Rattle.wi_parser.specs.Inner.Refusals.{refusal_of}
use Rattle.wi_parser.specs.Limits.{max_formula}

abbrev pub unless_refused : Option ParseFault → Option Tree → Result Tree ParseFault
unless_refused (Some e) found = Err e
unless_refused None found = ok_or found Syntax

-- the tree of the symbols, or the first cause for which there is none
abbrev pub judged : List Symbol → Result Tree ParseFault
judged ts = unless_refused (refusal_of ts) (whole (max_depth + 1) ts)

-- the tree of a formula's text, or the first cause for which there is none
unfoldable pub parsed : List ℕ → Result Tree ParseFault
parsed text = if nat_lt max_formula (length text) then Err TooLong else judged (formula_symbols text)

-- the text and how deep it nests are within their limits
pub record IsWithinLimits (text : List ℕ) : Type 0 where
  pub short : length text ≤ max_formula
  pub shallow : is_too_deep (formula_symbols text) ≡ false

abbrev pub as_content : Result Tree ParseFault → Result Content ParseFault
as_content (Ok t) = Ok (Formula t)
as_content (Err e) = Err e

-- what stands after an apostrophe is taken as a text, where it is not too long
abbrev pub taken_as_text : List ℕ → Result Content ParseFault
taken_as_text text = if nat_lt max_text (length text) then Err TooLong else Ok (Constant (Text text))

abbrev pub constant_read : List ℕ → Option (List ℕ) → Result Content ParseFault
constant_read text (Some rest) = taken_as_text rest
constant_read text None = ok_or (option_map Constant (imported text)) TooLong

-- what is put into a cell: a formula where the text begins with `=` or `of:=`, a text after an apostrophe, or what is
-- imported
unfoldable pub content_read : List ℕ → Result Content ParseFault
content_read text =
    if is_some (after_equals text) then as_content (parsed text)
    else constant_read text (after (codes "'") text)

-- a text that is too long, which is found before anything grows
abbrev pub is_too_long : {A : Type 0} → Result A ParseFault → Bool
is_too_long (Err TooLong) = true
is_too_long found = false

-- what is answered is what is found, or Memory, but not where the text is too long
abbrev pub ReadsAs : {A : Type 0} → Result A ParseFault → Result A ParseFault → Type 0
ReadsAs found (Err Memory) = is_too_long found ≡ false
ReadsAs found answer = found ≡ answer
