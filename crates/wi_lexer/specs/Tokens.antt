-- All tokens of a text.
use Rattle.std.specs.Prelude.{◌≡◌, ◌≢◌, ℕ, Bool, true, false, List, [], ◌∷◌, ◌++◌, take, drop}
use Rattle.wi_lexer.specs.declared.token.Kind.{Kind}
use Rattle.wi_lexer.specs.Token.{IsLongest, NoToken, after_blanks}
use Rattle.wi_fraction.specs.Text.{Bytes}

-- The tokens up to the end or the first bad one, each with its kind and bytes, and whether a bad one ended them.
pub record Tokens : Type 0 where
  pub found : List (Kind × Bytes)
  pub bad : Bool

-- none, up to the end
abbrev pub no_tokens : Tokens
no_tokens = record { found = []; bad = false }

-- none, up to a bad one
abbrev pub bad_token : Tokens
bad_token = record { found = []; bad = true }

-- these, and then those
abbrev pub then_tokens : List (Kind × Bytes) → Tokens → Tokens
then_tokens ts more = record { found = ts ++ more.found; bad = more.bad }

-- The tokens of a text: none where only white space is left; a bad one where none begins; else the longest one and
-- those of what follows it.
pub data AreTokens : Bytes → Tokens → Type 0 where
  ended : (text : Bytes) → after_blanks text ≡ [] → AreTokens text no_tokens
  bad : (text : Bytes) → after_blanks text ≢ [] → NoToken (after_blanks text) → AreTokens text bad_token
  more : (text : Bytes) (k : Kind) (n : ℕ) (ts : Tokens) → IsLongest k n (after_blanks text) → AreTokens (drop n (after_blanks text)) ts → AreTokens text (then_tokens ((k, take n (after_blanks text)) ∷ []) ts)
