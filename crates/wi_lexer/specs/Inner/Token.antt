-- Where a token is found, as a reader goes.
use Rattle.std.specs.Prelude.{ℕ, nat_lt, if◌then◌else◌, List, length, Option, Some, None}
use Rattle.std.specs.Option.{option_or}
use Rattle.wi_lexer.specs.declared.token.Kind.{Kind}
use Rattle.wi_lexer.specs.declared.token.Kind.TheVariants.{Number, Reference, Rectangle, Name, Text, Mark}
use Rattle.wi_lexer.specs.declared.token.Mark as mark
use Rattle.wi_lexer.specs.Inner.Number.{number_len}
use Rattle.wi_lexer.specs.Inner.Reference.{reference_len}
use Rattle.wi_lexer.specs.Inner.Rectangle.{rectangle_len}
use Rattle.wi_lexer.specs.Inner.Name.{name_len}
use Rattle.wi_lexer.specs.Inner.Text.{text_len}
use Rattle.wi_lexer.specs.Mark.{mark_text}
use Rattle.wi_lexer.specs.Inner.Mark.{mark_at}

-- a token of that length, if it isn't 0
abbrev pub of_length : Kind → ℕ → Option (Kind × ℕ)
of_length k n = if nat_lt 0 n then Some (k, n) else None

-- the token that a mark is
abbrev pub mark_token : Option mark.Mark → Option (Kind × ℕ)
mark_token None = None
mark_token (Some m) = Some (Mark m, length (mark_text m))

-- the reference at the front, to a cell or to a rectangle
abbrev pub brackets_at : List ℕ → Option (Kind × ℕ)
brackets_at bs = option_or (of_length Reference (reference_len bs)) (of_length Rectangle (rectangle_len bs))

-- the longest token at the front and its length: a number, else a mark, else a reference, else a rectangle, else a
-- name, else a text
unfoldable pub token_at : List ℕ → Option (Kind × ℕ)
token_at bs =
    option_or (of_length Number (number_len bs))
    (option_or (mark_token (mark_at bs))
    (option_or (brackets_at bs)
    (option_or (of_length Name (name_len bs))
    (of_length Text (text_len bs)))))
