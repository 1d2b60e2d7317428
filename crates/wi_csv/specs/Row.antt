-- A record as it is written (RFC 4180, section 2).
use Rattle.std.specs.Prelude.{ℕ, List, ◌++◌, map, codes}
use Rattle.std.specs.List.{join_with_byte}
use Rattle.std.specs.Str.{byte}
use Rattle.wi_lexer.specs.Quoted.{quoted, Bytes}

-- fields in quotes, commas between, CR LF
unfoldable pub row : List Bytes → Bytes
row fields = join_with_byte (byte ",") (map quoted fields) ++ codes "\r\n"
