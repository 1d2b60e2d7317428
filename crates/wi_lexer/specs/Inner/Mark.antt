-- Where a mark is found, as a reader goes.
use Rattle.std.specs.Prelude.{ℕ, ◌&&◌, ◌==◌, if◌then◌else◌, List, slice_index, Option, Some, None}
use Rattle.std.specs.Option.{option_or}
use Rattle.std.specs.Str.{byte}
use Rattle.wi_lexer.specs.declared.token.Mark.{Mark}
use Rattle.wi_lexer.specs.declared.token.Mark.TheVariants.{OpenParenthesis, CloseParenthesis, Plus, Minus, Asterisk, Slash, Caret, Percent, Ampersand, Equal, NotEqual, Less, LessOrEqual, Greater, GreaterOrEqual, Semicolon}

-- the mark that these two bytes are
unfoldable pub two_byte_mark : ℕ → ℕ → Option Mark
two_byte_mark a b =
    if (a == byte "<" && b == byte ">") then Some NotEqual
    else (if (a == byte "<" && b == byte "=") then Some LessOrEqual
    else (if (a == byte ">" && b == byte "=") then Some GreaterOrEqual
    else None))

-- the mark that this byte is
unfoldable pub one_byte_mark : ℕ → Option Mark
one_byte_mark b =
    if b == byte "(" then Some OpenParenthesis
    else (if b == byte ")" then Some CloseParenthesis
    else (if b == byte "+" then Some Plus
    else (if b == byte "-" then Some Minus
    else (if b == byte "*" then Some Asterisk
    else (if b == byte "/" then Some Slash
    else (if b == byte "^" then Some Caret
    else (if b == byte "%" then Some Percent
    else (if b == byte "&" then Some Ampersand
    else (if b == byte "=" then Some Equal
    else (if b == byte "<" then Some Less
    else (if b == byte ">" then Some Greater
    else (if b == byte ";" then Some Semicolon
    else None))))))))))))

-- the longest mark at the front
unfoldable pub mark_at : List ℕ → Option Mark
mark_at bs = option_or (two_byte_mark (slice_index bs 0) (slice_index bs 1)) (one_byte_mark (slice_index bs 0))
