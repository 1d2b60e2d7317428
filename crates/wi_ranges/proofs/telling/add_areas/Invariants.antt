use Rattle.wi_ranges.proofs.AreaLemmas.{ComeFirst, at_block}
use Rattle.wi_ranges.proofs.TellLemmas.{MissesNone}
use Rattle.wi_ranges.proofs.telling.add_areas.Given as goal

-- what stands at the block comes first, and is listed or still to come
abbrev pub invariant-loop-place : goal.invariant-loop-place
invariant-loop-place l = ComeFirst (at_block l.block) l.place-iterator × MissesNone l.block l.pieces.keys l.areas.items l.place-iterator
