-- Names in capitals.
use Rattle.std.specs.Prelude.{map}
use Rattle.std.specs.Char.{to_ascii_uppercase}
use Rattle.wi_fraction.specs.Text.{Bytes}

abbrev pub in_capitals : Bytes → Bytes
in_capitals = map to_ascii_uppercase
