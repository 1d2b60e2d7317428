-- What a lexer answers.
use Rattle.std.specs.Prelude.{◌≡◌, ◌≢◌, ◌+◌, ◌++◌, length, take, drop, Option, Some, None, Result, Ok, Err, []}
use Rattle.wi_lexer.specs.declared.lexer.Token.{Token}
use Rattle.wi_lexer.specs.declared.lexer.BadToken.{BadToken}
use Rattle.wi_lexer.specs.Scan.{Scan}
use Rattle.wi_lexer.specs.Token.{IsLongest, NoToken, after_blanks}
use Rattle.wi_fraction.specs.Text.{Bytes}

-- a text of which nothing was read
abbrev pub start_of : Bytes → Scan
start_of text = record { source = text; rest = text }

-- what is left after white space
abbrev pub ahead : Scan → Bytes
ahead s = after_blanks s.rest

-- The token is the longest at the front of what is left after white space, and the slice of the source at its span.
pub record IsNextToken (old : Scan) (t : Token) (new : Scan) : Type 0 where
  pub longest : IsLongest t.kind (length t.text.now) (ahead old)
  pub front : ahead old ≡ t.text.now ++ new.rest
  pub source : new.source ≡ old.source
  pub span : t.start + length (ahead old) ≡ length old.source
  pub slice : take (length t.text.now) (drop t.start old.source) ≡ t.text.now

-- Nothing is left.
pub record IsDone (old new : Scan) : Type 0 where
  pub rest : new.rest ≡ []
  pub source : new.source ≡ old.source

abbrev pub Lexes : Scan → Option (Result Token BadToken) → Scan → Type 0
Lexes old None new = (ahead old ≡ []) × IsDone old new
Lexes old (Some (Ok t)) new = IsNextToken old t new
Lexes old (Some (Err e)) new = (ahead old ≢ []) × NoToken (ahead old) × IsDone old new
