use Rattle.wi_worlds.proofs.Words.{◌≡◌, ◌++◌, drop, map, filter, is_reached}
use Rattle.wi_worlds.proofs.world.reached_cells.Given as goal

-- those that are listed, and those that will be
abbrev pub invariant-loop-replacement : goal.invariant-loop-replacement
invariant-loop-replacement l =
    let p = is_reached l.cones l.at in
    l.cells.items ++ map (λ r. r.at) (filter p (drop l.replacement-index l.replacements)) ≡ map (λ r. r.at) (filter p l.replacements)
