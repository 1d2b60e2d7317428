-- What a lexer shows of itself.
use Rattle.wi_fraction.specs.Text.{Bytes}

-- The source, and what is left of it.
pub record Scan : Type 0 where
  pub source : Bytes
  pub rest : Bytes
