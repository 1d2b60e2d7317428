-- How many bytes of text values have that may not be there.
use Rattle.std.specs.Prelude.{ℕ, Option, Some, None}
use Rattle.wi_values.specs.declared.value.Value.{Value}
use Rattle.wi_cache.specs.declared.key.Key.{Key}
use Rattle.wi_cache.specs.Entries.{text_len}

abbrev pub len_of_earlier : Option Value → ℕ
len_of_earlier None = 0
len_of_earlier (Some v) = text_len v

abbrev pub len_of_gone : Option (Key × Value) → ℕ
len_of_gone None = 0
len_of_gone (Some e) = text_len e.1
