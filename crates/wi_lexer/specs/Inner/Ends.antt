-- Where a token ends, by the byte that follows it.
use Rattle.std.specs.Prelude.{ℕ, Bool, true, false, not, ◌||◌, ◌==◌, List, [], ◌∷◌}
use Rattle.std.specs.Char.{is_ascii_digit}
use Rattle.std.specs.Str.{byte}
use Rattle.wi_fraction.specs.Inner.Signs.{is_exponent_letter}
use Rattle.wi_lexer.specs.declared.token.Kind.{Kind}
use Rattle.wi_lexer.specs.declared.token.Kind.TheVariants.{Number, Name, Text, Mark}
use Rattle.wi_lexer.specs.declared.token.Mark.TheVariants.{Less, Greater}
use Rattle.wi_lexer.specs.Name.{is_name_part}

-- whether a token of this kind may go on with this byte
abbrev pub goes_on : Kind → ℕ → Bool
goes_on Number b = is_ascii_digit b || b == byte "." || is_exponent_letter b
goes_on Name b = is_name_part b
goes_on Text b = b == byte "\""
goes_on (Mark Less) b = b == byte "=" || b == byte ">"
goes_on (Mark Greater) b = b == byte "="
goes_on k b = false

-- whether what follows doesn't go on with a token of this kind
abbrev pub ends : Kind → List ℕ → Bool
ends k [] = true
ends k (b ∷ bs) = not (goes_on k b)
