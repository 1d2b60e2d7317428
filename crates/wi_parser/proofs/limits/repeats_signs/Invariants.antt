use Rattle.wi_parser.proofs.Words.{◌<◌, ◌≤◌, ◌↔◌, drop, max_depth, most_signs, all_meant}
use Rattle.wi_parser.proofs.limits.repeats_signs.Given as goal

abbrev pub invariant-loop-symbol : goal.invariant-loop-symbol
invariant-loop-symbol l = (l.signs ≤ 64) × ((max_depth < most_signs 0 (all_meant l.symbols)) ↔ (max_depth < most_signs l.signs (all_meant (drop l.symbol-index l.symbols))))
