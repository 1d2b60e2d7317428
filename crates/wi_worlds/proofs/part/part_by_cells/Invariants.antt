use Rattle.wi_worlds.proofs.Words.{◌≡◌, ◌≤◌, ◌+◌, ◌&&◌, true, drop, length, same_replacements, picked}
use Rattle.wi_worlds.proofs.part.part_by_cells.Given as goal

-- those that are counted, and whether what is left of both is the same
abbrev pub invariant-loop-cell : goal.invariant-loop-cell
invariant-loop-cell l =
    let left = picked l.replacements (drop l.cell-index l.cells) in record {
      counted : l.count + length left ≡ length (picked l.replacements l.cells);
      within : l.count ≤ l.cell-index;
      ahead : (l.is_last && same_replacements (drop l.count l.last) left) ≡ same_replacements l.last (picked l.replacements l.cells);
      space : l.is_last ≡ true → l.count ≤ length l.last;
    }
