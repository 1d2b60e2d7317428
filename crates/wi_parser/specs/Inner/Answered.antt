-- What is answered to a text that is put into a cell: its content, or the first of its faults.
use Rattle.std.specs.Prelude.{◌≡◌, List, [], ◌∷◌, ◌⊎◌, IsTrue, Result, Ok, Err}
use Rattle.std.specs.List.{Contains}
use Rattle.wi_fraction.specs.Text.{Bytes}
use Rattle.wi_parser.specs.declared.content.Content.{Content}
use Rattle.wi_parser.specs.declared.fault.ParseFault.{ParseFault}
use Rattle.wi_parser.specs.declared.fault.ParseFault.TheVariants.{TooLong, OutOfSheet, NumberRange, TooDeep, Syntax, Memory}
use Rattle.wi_parser.specs.Contents.{HasSymbols, IsContent, IsTooLong}
use Rattle.wi_parser.specs.Nesting.{is_too_deep}
use Rattle.wi_parser.specs.Spelling.{IsSpelling}
use Rattle.wi_parser.specs.Symbol.{bad_token}
use Rattle.wi_parser.specs.Tree.{Tree}

abbrev pub HasFault : Bytes → ParseFault → Type 0
HasFault text TooLong = IsTooLong text
HasFault text OutOfSheet = HasSymbols text (λ ts. Contains ts (bad_token OutOfSheet))
HasFault text NumberRange = HasSymbols text (λ ts. Contains ts (bad_token NumberRange))
HasFault text TooDeep = HasSymbols text (λ ts. IsTrue (is_too_deep ts))
HasFault text Syntax = HasSymbols text (λ ts. (t : Tree) → IsSpelling t ts → ⊥)
HasFault text Memory = ⊥

-- in the order in which they are answered
abbrev pub faults : List ParseFault
faults = TooLong ∷ OutOfSheet ∷ NumberRange ∷ TooDeep ∷ Syntax ∷ []

-- the first of these that the text has
abbrev pub IsFirstFault : Bytes → List ParseFault → ParseFault → Type 0
IsFirstFault text [] e = ⊥
IsFirstFault text (x ∷ xs) e = (HasFault text x × (e ≡ x)) ⊎ ((HasFault text x → ⊥) × IsFirstFault text xs e)

-- a content where the text has no fault
abbrev pub IsAnsweredAs : Bytes → Result Content ParseFault → Type 0
IsAnsweredAs text (Ok c) = IsContent text c × ((e : ParseFault) → HasFault text e → ⊥)
IsAnsweredAs text (Err e) = IsFirstFault text faults e
