use Rattle.wi_parser.proofs.Words.{◌<◌, ◌≤◌, ◌↔◌, drop, max_depth, deepest, all_meant}
use Rattle.wi_parser.proofs.limits.opens_too_many.Given as goal

abbrev pub invariant-loop-symbol : goal.invariant-loop-symbol
invariant-loop-symbol l = (l.open ≤ 64) × ((max_depth < deepest 0 (all_meant l.symbols)) ↔ (max_depth < deepest l.open (all_meant (drop l.symbol-index l.symbols))))
