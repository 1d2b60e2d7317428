-- Where all tokens are found, as a reader goes.
use Rattle.std.specs.Prelude.{ℕ, zero, suc, List, [], ◌∷◌, length, take, drop, Option, Some, None}
use Rattle.wi_lexer.specs.declared.token.Kind.{Kind}
use Rattle.wi_lexer.specs.Token.{after_blanks}
use Rattle.wi_lexer.specs.Inner.Token.{token_at}
use Rattle.wi_lexer.specs.Tokens.{Tokens, bad_token, no_tokens, then_tokens}

-- the token that begins the bytes, and what follows it by `again`
abbrev pub tokens_from : (List ℕ → Tokens) → List ℕ → Option (Kind × ℕ) → Tokens
tokens_from again bs None = bad_token
tokens_from again bs (Some t) = then_tokens ((t.0, take t.1 bs) ∷ []) (again (drop t.1 bs))

abbrev pub tokens_ahead : (List ℕ → Tokens) → List ℕ → Tokens
tokens_ahead again [] = no_tokens
tokens_ahead again (b ∷ bs) = tokens_from again (b ∷ bs) (token_at (b ∷ bs))

-- at most n tokens
unfoldable pub tokens_within : ℕ → List ℕ → Tokens
tokens_within zero bs = no_tokens
tokens_within (suc n) bs = tokens_ahead (tokens_within n) (after_blanks bs)

-- the tokens of a text, of which there are no more than bytes
unfoldable pub tokens : List ℕ → Tokens
tokens text = tokens_within (length text) text
