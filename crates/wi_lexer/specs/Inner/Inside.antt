-- What a `Lexer` keeps, and how it is seen.
use Rattle.std.specs.Prelude.{◌≡◌, ◌-◌, ◌≤◌, length, drop}
use Rattle.wi_lexer.specs.Scan.{Scan}
use Rattle.wi_lexer.specs.declared.lexer.Lexer.TheInside.{Inside}

abbrev pub scan_of : Inside → Scan
scan_of l = record { source = l.source.now; rest = l.rest.now }

-- what is left is the end of the source
abbrev pub IsSuffix : Inside → Type 0
IsSuffix l = (length l.rest.now ≤ length l.source.now) × (drop (length l.source.now - length l.rest.now) l.source.now ≡ l.rest.now)
