-- What a search through cells has found.
use Rattle.std.specs.Prelude.{◌≡◌, ℕ, pos, Bool, true, false, not, ◌&&◌, int_lt, if◌then◌else◌, List, fold, position, Option, Some, None}
use Rattle.std.specs.Ordering.{int_eq, is_eq, is_le, is_ge}
use Rattle.std.specs.declared.cmp.Ordering.{Ordering}
use Rattle.wi_fraction.specs.Number as numbers
use Rattle.wi_values.specs.Address.{Area, cells_of}
use Rattle.wi_values.specs.declared.value.Value.{Value}
use Rattle.wi_standard_functions.specs.Matching.{is_match, last_position}
use Rattle.wi_lookup_functions.specs.Inner.Finding.{WhateverHeld}
use Rattle.wi_lookup_functions.specs.declared.rule.Rule.{Rule}
use Rattle.wi_lookup_functions.specs.declared.rule.Rule.TheVariants.{FirstEqual, LastAtMost, LastAtLeast}

-- the orders to the value sought that are asked for
abbrev pub passes : Rule → Ordering → Bool
passes FirstEqual = is_eq
passes LastAtMost = is_le
passes LastAtLeast = is_ge

-- nothing that follows is found instead
abbrev pub is_decided : Rule → Option ℕ → Bool
is_decided FirstEqual None = false
is_decided FirstEqual (Some c) = true
is_decided LastAtMost o = false
is_decided LastAtLeast o = false

-- what is found after a cell with this value
abbrev pub found_after : Rule → Value → Option ℕ → ℕ → Value → Option ℕ
found_after rule sought o c v = if is_match (passes rule) sought v && not (is_decided rule o) then Some c else o

-- what is found of the rectangle, whatever the cells hold of which nothing is known
abbrev pub HasFound : (ℕ → Option Value) → Area → Rule → Value → Option ℕ → Type 0
HasFound known r rule sought found = WhateverHeld known (λ cells. found ≡ fold (λ o c. found_after rule sought o c (cells c)) None (cells_of r))

-- the place that is found in a list, from 0
abbrev pub position_by : Rule → Value → List Value → Option ℕ
position_by FirstEqual sought vs = position (is_match is_eq sought) vs
position_by LastAtMost sought vs = last_position (is_match is_le sought) vs
position_by LastAtLeast sought vs = last_position (is_match is_ge sought) vs

abbrev pub rule_of_match_type : numbers.Number → Rule
rule_of_match_type x =
    if int_eq x.num (pos 0) then FirstEqual else
    if int_lt x.num (pos 0) then LastAtLeast else
    LastAtMost

abbrev pub rule_in_order : Bool → Rule
rule_in_order in_order = if in_order then LastAtMost else FirstEqual
