-- The earlier of two cells that were sought, with what stands there.
use Rattle.std.specs.Prelude.{ℕ, nat_lt, if◌then◌else◌, Option, Some, None}
use Rattle.wi_values.specs.declared.replacement.Replacement.{Replacement}
use Rattle.wi_parser.specs.declared.content.Content.{Content}
use Rattle.wi_parser.specs.Sheet.{constant}

-- one is occupied, the other replaced: where both are one cell, it is replaced
abbrev pub earlier : Option (ℕ × Content) → Option Replacement → Option (ℕ × Option Content)
earlier None None = None
earlier None (Some r) = Some (r.at, constant r.value)
earlier (Some x) None = Some (x.0, Some x.1)
earlier (Some x) (Some r) = if nat_lt x.0 r.at then Some (x.0, Some x.1) else Some (r.at, constant r.value)
