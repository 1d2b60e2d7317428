use Rattle.wi_parser.proofs.Words.{arith, length-map, meant_by, all_meant}
use Rattle.wi_parser.proofs.TooDeep.{few_symbols, found_open, found_signs}
use Rattle.wi_parser.proofs.limits.is_too_deep.Goals as goal

pub returns-then-symbols-le-MAX_DEPTH : goal.returns-then-symbols-le-MAX_DEPTH
returns-then-symbols-le-MAX_DEPTH c =
    few_symbols (all_meant c.args.symbols.now) (omega (arith, length-map c.args.symbols.now meant_by, c.if-symbols-le-MAX_DEPTH.true))

pub returns-then-opens_too_many : goal.returns-then-opens_too_many
returns-then-opens_too_many c = found_open c.opens_too_many.result (all_meant c.args.symbols.now) c.opens_too_many.ensures c.if-opens_too_many.true

pub returns-else-opens_too_many : goal.returns-else-opens_too_many
returns-else-opens_too_many c =
    found_signs c.opens_too_many.result c.repeats_signs.result (all_meant c.args.symbols.now) c.opens_too_many.ensures c.repeats_signs.ensures c.if-opens_too_many.false
