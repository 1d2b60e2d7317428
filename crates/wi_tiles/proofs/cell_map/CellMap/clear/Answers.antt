use Rattle.wi_tiles.proofs.Words.{sym, ap, length, slot, at_window, at_sorted}
use Rattle.wi_tiles.proofs.Ends.{trimmed_none}
use Rattle.wi_tiles.proofs.MapLemmas.{no_pages}
use Rattle.wi_tiles.proofs.cell_map.CellMap.clear.Goals as goal

pub invariant_of-self : goal.invariant_of-self
invariant_of-self g c = (sym (ap length (no_pages c.clear.new.self c.clear.ensures)), trimmed_none (at_window (at_sorted slot)) c.clear.new.self.1 c.clear.ensures)

pub returns : goal.returns
returns g c = no_pages c.clear.new.self c.clear.ensures
