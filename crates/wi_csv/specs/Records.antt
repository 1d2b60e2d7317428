-- The records of a CSV text, as the crate `csv` states them.
use Rattle.std.specs.Prelude.{ℕ, List}
use Rattle.csv.specs.Reading.{default_config, strip_bom, records}
use Rattle.wi_lexer.specs.Quoted.{Bytes}

-- commas between fields, double quotes around them, once a byte order mark is taken off
unfoldable pub recs : Bytes → List (List Bytes)
recs text = records default_config (strip_bom text)
