use Rattle.std.proofs.Common.{ℕ, ◌<◌, IsSome, get_or}
use Rattle.std.specs.BTreeMap.{get}
use Rattle.std.specs.Ordering.{nat_cmp}
use Rattle.wi_values.specs.declared.replacement.Replacement.{Replacement}
use Rattle.wi_tests.proofs.worlds.all_have_cones.Given as goal

-- those so far have cones
abbrev pub invariant-loop-replacement : goal.invariant-loop-replacement
invariant-loop-replacement l = (k : ℕ) (d : Replacement) → k < l.replacement-index → IsSome (get nat_cmp l.cones (get_or l.replacement-items k d).at)
