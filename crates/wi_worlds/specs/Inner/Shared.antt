-- What a world holds, and what a table of reached cells does.
use Rattle.std.specs.Prelude.{ℕ, List, [], Option, Some, None}
use Rattle.std.specs.Global.{Box}
use Rattle.std.specs.HashMap.{HashMap}
use Rattle.std.specs.Rc.{rc_slice_items}
use Rattle.std.specs.declared.rc.RcSlice.{RcSlice}
use Rattle.wi_values.specs.declared.replacement.Replacement.{Replacement}
use Rattle.wi_worlds.specs.Reached.{Recorded}

-- the replacements behind a shared list, and none where there is none
abbrev pub shared_items : {Z : Type 0} → Option (RcSlice Replacement Z) → List Replacement
shared_items None = []
shared_items (Some shared) = rc_slice_items shared

-- what was recorded, and nothing where there is no table
abbrev pub recorded_in : {S : Type 0} → Option (Box (HashMap ℕ (List ℕ) S)) → Recorded
recorded_in None = []
recorded_in (Some table) = table.value.entries
