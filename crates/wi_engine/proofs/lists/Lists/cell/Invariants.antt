use Rattle.wi_engine.proofs.Words.{◌≡◌, drop, first_of}
use Rattle.wi_engine.proofs.lists.Lists.cell.Given as goal

abbrev pub invariant-loop-cell : goal.invariant-loop-cell
invariant-loop-cell l = first_of (drop l.cell-index l.self.first.items) l.at ≡ first_of l.self.first.items l.at
