use Rattle.wi_worlds.proofs.Words.{◌≡◌, ◌++◌, drop, picked}
use Rattle.wi_worlds.proofs.part.copies_by_cells.Given as goal

-- those that are kept, and those that will be
abbrev pub invariant-loop-cell : goal.invariant-loop-cell
invariant-loop-cell l = l.kept.items ++ picked l.replacements (drop l.cell-index l.cells) ≡ picked l.replacements l.cells
