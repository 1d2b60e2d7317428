use Rattle.wi_tiles.proofs.cell_map.CellMap.next_in.Goals as goal

pub returns-in-Some : goal.returns-in-Some
returns-in-Some g c = c.in-Some.ensures.cell

pub returns-in-None : goal.returns-in-None
returns-in-None g c = c.in-None.ensures.cell
