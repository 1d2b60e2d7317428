-- Where a text ends, and what it holds, as a reader goes.
use Rattle.std.specs.Prelude.{ℕ, ◌+◌, Bool, true, false, ◌==◌, if◌then◌else◌, List, [], ◌∷◌}
use Rattle.std.specs.Str.{byte}
use Rattle.wi_lexer.specs.Inner.Runs.{one_longer}

-- the length up to the last quote that may be the last of the text, or 0 where there is none
unfoldable pub quoted_len : (inside : Bool) → List ℕ → ℕ
quoted_len inside [] = 0
quoted_len true (b ∷ bs) = if b == byte "\"" then 1 + quoted_len false bs else one_longer (quoted_len true bs)
quoted_len false (b ∷ bs) = if b == byte "\"" then one_longer (quoted_len true bs) else 0

-- the length of the longest text in quotes at the front, or 0 where none stands there
abbrev pub text_len : List ℕ → ℕ
text_len bs = quoted_len false bs

-- what stands up to the quote that closes the text, a doubled quote once
unfoldable pub content_from : (inside : Bool) → List ℕ → List ℕ
content_from inside [] = []
content_from true (b ∷ bs) = if b == byte "\"" then content_from false bs else b ∷ content_from true bs
content_from false (b ∷ bs) = if b == byte "\"" then byte "\"" ∷ content_from true bs else []

-- the content of a text in double quotes, and nothing of a text that doesn't begin with one
unfoldable pub text_content : List ℕ → List ℕ
text_content [] = []
text_content (b ∷ bs) = if b == byte "\"" then content_from true bs else []
