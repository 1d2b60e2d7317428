-- Where a name ends, as a reader goes.
use Rattle.std.specs.Prelude.{ℕ, if◌then◌else◌, List, slice_index}
use Rattle.std.specs.List.{prefix_len}
use Rattle.wi_lexer.specs.Name.{is_name_part, is_name_start}

-- how many parts of a name stand at the front
abbrev pub name_parts_len : List ℕ → ℕ
name_parts_len bs = prefix_len is_name_part bs

-- the length of the longest name at the front, or 0 where none stands there
unfoldable pub name_len : List ℕ → ℕ
name_len bs = if is_name_start (slice_index bs 0) then name_parts_len bs else 0
