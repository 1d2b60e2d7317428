-- The tree of a formula's text, or the first cause for which there is none.
use Rattle.std.specs.Prelude.{◌≡◌, ◌<◌, ◌≤◌, List, length, Some, None, Result, Ok, Err}
use Rattle.wi_fraction.specs.Text.{Bytes}
use Rattle.wi_parser.specs.declared.fault.ParseFault.{ParseFault}
use Rattle.wi_parser.specs.declared.fault.ParseFault.TheVariants.{TooLong, Syntax}
use Rattle.wi_parser.specs.Contents.{IsFormulaText}
use Rattle.wi_parser.specs.Limits.{max_formula}
use Rattle.wi_parser.specs.Spelling.{IsSpelling}
use Rattle.wi_parser.specs.Symbol.{Symbol}
use Rattle.wi_parser.specs.Symbols.{AreSymbols}
use Rattle.wi_parser.specs.Tree.{Tree}
use Rattle.wi_parser.specs.Inner.Refusals.{refusal_of}

-- refused for the first cause that holds
pub data AreJudged : List Symbol → Result Tree ParseFault → Type 0 where
  at_fault : (ts : List Symbol) (e : ParseFault) → refusal_of ts ≡ Some e → AreJudged ts (Err e)
  a_tree : (ts : List Symbol) (t : Tree) → refusal_of ts ≡ None → IsSpelling t ts → AreJudged ts (Ok t)
  no_tree : (ts : List Symbol) → refusal_of ts ≡ None → ((t : Tree) → IsSpelling t ts → ⊥) → AreJudged ts (Err Syntax)

pub data IsParsed : Bytes → Result Tree ParseFault → Type 0 where
  too_long : (text body : Bytes) → IsFormulaText text body → max_formula < length text → IsParsed text (Err TooLong)
  as_judged : (text body : Bytes) (ts : List Symbol) (r : Result Tree ParseFault) → IsFormulaText text body → length text ≤ max_formula
      → AreSymbols body ts → AreJudged ts r → IsParsed text r
