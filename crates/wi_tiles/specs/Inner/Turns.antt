-- Where a walk turns to.
use Rattle.std.specs.Prelude.{ℕ}
use Rattle.wi_values.specs.Address.{Area, place}
use Rattle.wi_tiles.specs.declared.band.Turn.{Turn}
use Rattle.wi_tiles.specs.Inner.Cells.{Pages}
use Rattle.wi_tiles.specs.Inner.Within.{IsTurn}

-- the next tile of which something is to come, from a row and a column on, and where the walk goes on behind that
abbrev pub LeadsOn : {V : Type 0} → Pages V → Area → ℕ → ℕ → Turn V → Type 0
LeadsOn w area row column t = IsTurn w area (place row column) t.tile.now t.corner t.left t.before t.whole t.row t.column t.tiles t.first
