use Rattle.wi_worlds.proofs.Words.{◌≡◌, ◌++◌, drop, filter, is_of}
use Rattle.wi_worlds.proofs.part.copies_by_replacements.Given as goal

-- those that are kept, and those that will be
abbrev pub invariant-loop-replacement : goal.invariant-loop-replacement
invariant-loop-replacement l = l.kept.items ++ filter (is_of l.cells) (drop l.replacement-index l.replacements) ≡ filter (is_of l.cells) l.replacements
