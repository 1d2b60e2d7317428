use Rattle.wi_value_functions.proofs.Words.{◌≡◌, drop, string_bytes, to_text, map_until_error, concatenated}
use Rattle.wi_value_functions.proofs.Joining.{joined_to}
use Rattle.wi_value_functions.proofs.text.joined.concatenate.Given as goal

-- what is joined and what is left make the value together
abbrev pub invariant-loop-value : goal.invariant-loop-value
invariant-loop-value l = joined_to (string_bytes l.joined) (map_until_error to_text (drop l.value-index l.values)) ≡ concatenated l.values
