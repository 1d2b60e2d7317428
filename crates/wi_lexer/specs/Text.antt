-- Texts as a formula writes them (OpenFormula, "Constant Strings").
use Rattle.wi_lexer.specs.Quoted.{quoted}
use Rattle.wi_fraction.specs.Text.{Bytes}

-- The text is some content in double quotes.
pub data IsText : Bytes → Type 0 where
  of_content : (content : Bytes) → IsText (quoted content)
