use Rattle.wi_engine.proofs.Words.{◌≡◌, drop, None, Area, is_within, size_of}
use Rattle.wi_engine.proofs.together.Smallest.{least_from}
use Rattle.wi_engine.proofs.together.smallest_with.Given as goal

-- the smallest of what is kept and those that are left is that of all
abbrev pub invariant-loop-rectangle : goal.invariant-loop-rectangle
invariant-loop-rectangle l =
    least_from (λ (r : Area). is_within r l.at) size_of l.smallest (drop l.rectangle-index l.rectangles)
    ≡ least_from (λ (r : Area). is_within r l.at) size_of None l.rectangles
