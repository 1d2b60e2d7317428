use Rattle.wi_tiles.proofs.Words.{sym, ap, length, slot, at_window, at_sorted}
use Rattle.wi_tiles.proofs.Ends.{trimmed_none}
use Rattle.wi_tiles.proofs.MapLemmas.{no_pages}
use Rattle.wi_tiles.proofs.cell_map.CellMap.new.Goals as goal

pub invariant_of-result : goal.invariant_of-result
invariant_of-result g c = (sym (ap length (no_pages c.new.result c.new.ensures)), trimmed_none (at_window (at_sorted slot)) c.new.result.1 c.new.ensures)

pub returns : goal.returns
returns g c = no_pages c.new.result c.new.ensures
