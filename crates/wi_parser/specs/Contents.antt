-- What a text is taken for that is put into a cell, and where it is too long, as facts about its bytes.
use Rattle.std.specs.Prelude.{◌≡◌, ◌≢◌, ◌<◌, List, ◌++◌, length, Some, None, codes}
use Rattle.wi_values.specs.declared.value.Value.{Value}
use Rattle.wi_values.specs.declared.value.Value.TheVariants.{Text}
use Rattle.wi_values.specs.Import.{max_text}
use Rattle.wi_values.specs.Imported.{IsImported}
use Rattle.wi_parser.specs.declared.content.Content.{Content}
use Rattle.wi_parser.specs.declared.content.Content.TheVariants.{Constant, Formula}
use Rattle.wi_parser.specs.Spelling.{IsSpelling}
use Rattle.wi_parser.specs.Limits.{max_formula}
use Rattle.wi_parser.specs.Symbol.{Symbol}
use Rattle.wi_parser.specs.Symbols.{AreSymbols}
use Rattle.wi_parser.specs.Tree.{Tree}
use Rattle.wi_fraction.specs.Text.{Bytes}

-- what follows a formula's `=` or `of:=`
pub data IsFormulaText : Bytes → Bytes → Type 0 where
  plain : (body : Bytes) → IsFormulaText (codes "=" ++ body) body
  prefixed : (body : Bytes) → IsFormulaText (codes "of:=" ++ body) body

-- the text is a formula's, and this holds of its symbols
abbrev pub HasSymbols : Bytes → (List Symbol → Type 0) → Type 0
HasSymbols text P = (body : Bytes) × (ts : List Symbol) × IsFormulaText text body × AreSymbols body ts × P ts

-- the text is a formula's, and its symbols spell this tree
abbrev pub IsTextOf : Bytes → Tree → Type 0
IsTextOf text t = HasSymbols text (IsSpelling t)

-- the text is that of no formula
abbrev pub IsNoFormulaText : Bytes → Type 0
IsNoFormulaText text = (body : Bytes) → IsFormulaText text body → ⊥

pub record IsConstantText (text : Bytes) : Type 0 where
  pub no_formula : (body : Bytes) → IsFormulaText text body → ⊥
  pub no_apostrophe : (rest : Bytes) → text ≢ codes "'" ++ rest

-- a formula; the text after an apostrophe; else what the text is taken for
pub data IsContent : Bytes → Content → Type 0 where
  a_formula : (text : Bytes) (t : Tree) → HasSymbols text (IsSpelling t) → IsContent text (Formula t)
  a_text : (text : Bytes) → IsContent (codes "'" ++ text) (Constant (Text text))
  a_constant : (text : Bytes) (v : Value) → IsConstantText text → IsImported text (Some v) → IsContent text (Constant v)

pub data IsTooLong : Bytes → Type 0 where
  a_long_formula : (text body : Bytes) → IsFormulaText text body → max_formula < length text → IsTooLong text
  a_long_text : (text : Bytes) → max_text < length text → IsTooLong (codes "'" ++ text)
  a_long_constant : (text : Bytes) → IsConstantText text → IsImported text None → IsTooLong text
