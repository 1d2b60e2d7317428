use Rattle.wi_graph.proofs.Words.{◌≡◌, ◌+◌, take, RangePair, count_of, times}
use Rattle.wi_graph.proofs.staging.add_pairs.Given as goal

abbrev pub invariant-loop-area : goal.invariant-loop-area
invariant-loop-area l = (l.added ≡ l.area-index) × ((p : RangePair) → count_of l.readers p ≡ count_of l.initial.readers p + times l.cell (take l.area-index l.areas) p)
